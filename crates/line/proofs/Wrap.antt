-- A step on a table whose counts are reduced modulo m is the step on the table itself, reduced: row by row, where a swap compares alike. Assumes nothing.
use Prim.Native.Nat.{ℕ, suc, ◌%◌, ◌≤◌}
use mathlib.Core.Path.{◌≡◌, refl, sym, ◌∙◌, ap}
use mathlib.Core.Bool.{cond}
use lib.Dec.{eqb, ltb}
use native.Mathlib.Nat.{mod-add-mod}
use native.Mathlib.Numerals.{add-one}
use Rattle.laws.proofs.Cases.{cond_map}
use Rattle.link.specs.Count.{next}
use Rattle.link.specs.Operations.{CLOSED, OPEN, changed, same, swapped, Swapped}
use Rattle.link.specs.declared.Link.{Link}
use Rattle.stage.specs.Rows.{leaves, goes, with_w, with_link, find, rows, after9, last}
use Rattle.stage.specs.declared.Event.{Event}
use Rattle.stage.specs.declared.Event.TheVariants as event
use Rattle.stage.specs.declared.Private.{Private}
use Rattle.stage.specs.declared.Shared.{Shared}
use Rattle.stage.specs.declared.Stepped.{Stepped}
use Rattle.stage.proofs.ByStage.{by_stage}
use Rattle.std.specs.Prelude.{Ok, Err}

module _ (m : ℕ) where
  abbrev pub wrap_link : Link → Link
  wrap_link l = record { pointer = l.pointer; mark = l.mark; count = l.count % m }

  abbrev pub wrap_private : Private → Private
  wrap_private me = with_w (wrap_link me.w) me

  abbrev pub wrap_shared : Shared → Shared
  wrap_shared its = with_link (wrap_link its.link) its

  abbrev pub wrap_stepped : Stepped → Stepped
  wrap_stepped r = record { me = wrap_private r.me; its = wrap_shared r.its; lock = r.lock; answer = r.answer }

  pub changed_wraps : (l : Link) (to marked : ℕ) → changed (next m) (wrap_link l) to marked ≡ wrap_link (changed suc l to marked)
  unfolding changed
  changed_wraps l to marked =
      let c : next m (l.count % m) ≡ suc l.count % m = mod-add-mod l.count m 1 ∙ ap (λ (k : ℕ). k % m) (add-one l.count) in
      λ i. record { pointer = to; mark = marked; count = c i }

  abbrev wrap_swapped : Swapped → Swapped
  wrap_swapped (Ok l) = Ok (wrap_link l)
  wrap_swapped (Err l) = Err (wrap_link l)

  module _ (p : ℕ) (me : Private) (its : Shared) (lock : ℕ) where
    -- the row of stage k on reduced parts is the row, reduced
    abbrev pub Wraps : ℕ → Type 0
    Wraps k = (find rows k).row (next m) p (wrap_private me) (wrap_shared its) lock ≡ wrap_stepped ((find rows k).row suc p me its lock)

    after9_wraps : (r : Swapped) → after9 (wrap_private me) (wrap_shared its) lock (wrap_swapped r) ≡ wrap_stepped (after9 me its lock r)
    after9_wraps (Ok l) = refl
    after9_wraps (Err l) = refl

    -- a swap on reduced links compares as the swap does
    abbrev pub Alike : Type 0
    Alike = same (wrap_link its.link) (wrap_link me.w) ≡ same its.link me.w

    swapped_wraps : Alike → swapped (next m) (wrap_link its.link) (wrap_link me.w) p ≡ wrap_swapped (swapped suc its.link me.w p)
    unfolding swapped
    swapped_wraps alike =
        (λ i. cond (alike i) (Ok (changed_wraps its.link p OPEN i)) (Err (wrap_link its.link)))
        ∙ sym (cond_map wrap_swapped (same its.link me.w) (Ok (changed suc its.link p OPEN)) (Err its.link))

    -- the row leaves the link changed
    relinked : (k to marked : ℕ) (e : Event)
        → leaves (goes k (wrap_private me)) (with_link (changed (next m) (wrap_link its.link) to marked) its) lock e
        ≡ wrap_stepped (leaves (goes k me) (with_link (changed suc its.link to marked) its) lock e)
    relinked k to marked e = ap (λ (l : Link). leaves (goes k (wrap_private me)) (with_link l its) lock e) (changed_wraps its.link to marked)

    pub row_wraps : (k : ℕ) → k ≤ last → (k ≡ 9 → Alike) → Wraps k
    unfolding find rows
    row_wraps =
        by_stage (λ k. (k ≡ 9 → Alike) → Wraps k)
        (λ _. refl)
        (λ _. relinked 2 0 its.link.mark event.Done)
        (λ _. sym (cond_map wrap_stepped (eqb lock 0) _ _))
        (λ _. relinked 13 its.link.pointer OPEN (event.Admitted p))
        (λ _. refl)
        (λ _. refl)
        (λ _. refl)
        (λ _. sym (cond_map wrap_stepped (ltb its.priority me.own) _ _))
        (λ _. relinked 9 me.w.pointer its.link.mark event.Done)
        (λ alike. ap (after9 (wrap_private me) (wrap_shared its) lock) (swapped_wraps (alike refl)) ∙ after9_wraps (swapped suc its.link me.w p))
        (λ _. refl)
        (λ _. relinked 12 its.link.pointer OPEN event.Done)
        (λ _. sym (cond_map wrap_stepped (eqb its.locked 0) _ _))
        (λ _. refl)
        (λ _. relinked 15 its.link.pointer CLOSED event.Left)
        (λ _. refl)
        (λ _. sym (cond_map wrap_stepped (eqb me.s 0) _ _))
        (λ _. refl)
        (λ _. refl)
        (λ _. refl)
