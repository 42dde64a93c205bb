-- A step at stage 9 in place: what its swap and the store of the stage leave is the image of the table after the step.
-- Assumes nothing.
use Prim.Native.Nat.{ℕ, ◌+◌, ◌/◌, ◌%◌, ◌≤◌, ◌<◌}
use mathlib.Core.Path.{◌≡◌, refl, sym, ◌∙◌, ap, ap₂, subst, subst⁻¹}
use mathlib.Core.Bool.{Bool, true, false, ◌||◌}
use mathlib.Core.List.{List}
use native.Mathlib.Omega.{arith}
use lib.Dec.{eqb}
use lib.ListN.{length, set, length-set}
use lib.Seq.{get_or-set_same, get_or-set_other}
use borrow.Author.Tests.{le-leb}
use Rattle.laws.proofs.Said.{no_left}
use Rattle.link.specs.Count.{next, size}
use Rattle.inplace.specs.InPlace.{lies, link_at, link_put, left, swapped_in}
use Rattle.link.specs.Operations.{swapped, Swapped}
use Rattle.link.specs.declared.Link.{Link}
use Rattle.inplace.specs.declared.Place.{Place}
use Rattle.stage.specs.Answers.{answer_of}
use Rattle.stage.specs.Calls.{admits}
use Rattle.stage.specs.Rows.{goes, with_w, with_link, after9, find, rows, looked, looks_at, stepped}
use Rattle.stage.specs.Table.{Table, upd, step_of, logged, after_step}
use Rattle.stage.specs.declared.Answer.{Answer}
use Rattle.stage.specs.declared.Event.{Event}
use Rattle.stage.specs.declared.Event.TheVariants.{Done, Joined}
use Rattle.stage.specs.declared.Private.{Private}
use Rattle.stage.specs.declared.Shared.{Shared}
use Rattle.stage.specs.declared.Stepped.{Stepped}
use Rattle.stage.proofs.Update.{upd_kept}
use Rattle.row.specs.AfterSwap.{Follows}
use Rattle.row.specs.declared.After.{After}
use Rattle.row.proofs.AfterSwap.{by_swap}
use Rattle.layout.specs.Layout.{byte, length_for, modules, record_at, private_at, read, put}
use Rattle.layout.proofs.Changes.{with_shared, w_place, link_place, w_there, its_there, put_stage, put_w, put_link}
use Rattle.layout.proofs.Rewritten.{private_read, shared_read}
use Rattle.image.specs.Inside.{IsNumber, Says}
use Rattle.image.proofs.Replies.{answer_said, by_answer}
use Rattle.image.proofs.Modules.{seen}
use Rattle.image.proofs.Named.{steps}
use Rattle.image.proofs.Sound.{written}
use Rattle.image.proofs.Stored.{at_first, room, kept}
use Rattle.std.specs.Prelude.{Result, Ok, Err}

-- the mark of a link that was put at a place, where its count lies elsewhere
mark_put : (b : List ℕ) (l : Place) (x : Link) → l.pointer + 2 ≤ length b → l.pointer + 1 < l.count → byte (link_put b l x) (l.pointer + 1) ≡ x.mark
unfolding link_put
mark_put b l x fits apart =
    let b₁ = set b l.pointer x.pointer in
    let b₂ = set b₁ (l.pointer + 1) x.mark in
    get_or-set_other (set b₂ l.count (x.count / 256)) (l.count + 1) (l.pointer + 1) (x.count % 256) 0 (λ (e : l.pointer + 1 ≡ l.count + 1). omega arith)
    ∙ get_or-set_other b₂ l.count (l.pointer + 1) (x.count / 256) 0 (λ (e : l.pointer + 1 ≡ l.count). omega arith)
    ∙ get_or-set_same b₁ (l.pointer + 1) x.mark 0 (omega (arith, length-set b l.pointer x.pointer))

-- what a swap says, with the mark found where it failed
abbrev pub told : Bool → ℕ → Result (Unit {0}) ℕ
told true mark = Ok tt
told false mark = Err mark

module _ (b : List ℕ) (p : ℕ) (is : IsNumber b p) (nine : byte b (record_at b p) ≡ 9) (bytes : (i : ℕ) → byte b i < 256) where
  abbrev t : Table
  t = read b

  abbrev me : Private
  me = (read b).private p

  abbrev its : Shared
  its = (read b).shared me.prev

  me_is : me ≡ private_at b (record_at b p)
  me_is = private_read b p is.1 is.2

  at_nine : me.stage ≡ 9
  unfolding private_at
  at_nine = ap (λ (x : Private). x.stage) me_is ∙ nine

  looks : looks_at p me ≡ me.prev
  unfolding looks_at find rows
  looks = ap (λ (k : ℕ). looked (find rows k).looks p me) at_nine

  -- prev, as it is read, is a module's
  prev_is : (at : ℕ) → at ≡ record_at b p → byte b (at + 2) ≡ me.prev
  unfolding private_at
  prev_is at e = ap (λ (i : ℕ). byte b (i + 2)) e ∙ ap (λ (x : Private). x.prev) (sym me_is)

  prev_known : (1 ≤ me.prev) × (me.prev ≤ modules b)
  prev_known = subst (λ (q : ℕ). (1 ≤ q) × (q ≤ modules b)) looks (seen b p is)

  -- where the two links lie, and the swap of what is there
  abbrev found : Place
  found = link_place (record_at b me.prev)

  abbrev wanted : Place
  wanted = w_place (record_at b p)

  abbrev swap_is : Swapped
  swap_is = swapped (next size) its.link me.w p

  fits : length_for (modules b) ≤ length b
  fits = (written b is.0).fits

  swapped_there : swapped_in (next size) b found wanted p ≡ left swap_is b found wanted
  unfolding swapped_in lies
  swapped_there =
      let h = prev_known in
      let l : link_at b found ≡ its.link = its_there b (record_at b me.prev) ∙ ap (λ (x : Shared). x.link) (sym (shared_read b me.prev h.0 h.1)) in
      let w : link_at b wanted ≡ me.w = w_there b (record_at b p) ∙ ap (λ (x : Private). x.w) (sym me_is) in
      rw (
        le-leb (found.pointer + 2) (length b) (omega (arith, fits)),
        le-leb (found.count + 2) (length b) (omega (arith, fits)),
        le-leb (wanted.pointer + 2) (length b) (omega (arith, fits, is.1, is.2)),
        le-leb (wanted.count + 2) (length b) (omega (arith, fits, is.1, is.2)),
      )
      (ap₂ (λ (x y : Link). left (swapped (next size) x y p) b found wanted) l w)

  step_is : step_of (next size) t p ≡ after9 me its t.lock swap_is
  unfolding step_of
  step_is = ap (λ (q : ℕ). stepped (next size) p me (t.shared q) t.lock) looks ∙ sym (by_swap (next size) p me its t.lock at_nine swap_is refl)

  -- the table after it, by what the step leaves and what it looks at
  abbrev table_by : Stepped → ℕ → Table
  table_by s q = record { n = t.n; private = upd t.private p s.me; shared = upd t.shared q s.its; lock = s.lock; log = logged t.log s.answer.event }

  -- what is answered and left, where the log stays as it is
  record Took (a : After) (b' : List ℕ) : Type 0 where
    answer_is : a.answer ≡ (step_of (next size) (read b) p).answer
    quiet : admits a.answer.event ≡ false
    leaves_it : b' ≡ put (after_step (next size) (read b) p) b

  -- both ways leave a private and a shared part, and log nothing
  leaving : (a : After) {b₂ : List ℕ} (me' : Private) (its' : Shared) (e : Event) → admits e ≡ false → after9 me its t.lock swap_is ≡ record { me = me'; its = its'; lock = t.lock; answer = a.answer } → a.answer ≡ answer_of e
      → b₂ ≡ put (record { n = t.n; private = upd t.private p me'; shared = upd t.shared me.prev its'; lock = t.lock; log = t.log }) b → Took a b₂
  unfolding after_step
  leaving a me' its' e none row_is says put_is =
      let s : step_of (next size) t p ≡ record { me = me'; its = its'; lock = t.lock; answer = a.answer } = step_is ∙ row_is in
      let kept_log : t.log ≡ logged t.log a.answer.event = sym (kept t.log e none) ∙ ap (λ (x : Answer). logged t.log x.event) (sym says) in
      record {
        answer_is = ap (λ (x : Stepped). x.answer) (sym s);
        quiet = ap (λ (x : Answer). admits x.event) says ∙ none;
        leaves_it =
            put_is
            ∙ ap (λ (log : List ℕ). put (record { n = t.n; private = upd t.private p me'; shared = upd t.shared me.prev its'; lock = t.lock; log = log }) b) kept_log
            ∙ ap₂ (λ (x : Stepped) (q : ℕ). put (table_by x q) b) (sym s) (sym looks);
      }

  module _ (a : After) {b₁ b₂ : List ℕ} (stored : b₂ ≡ set b₁ (record_at b p) a.stage) where
    was_done : (l : Link) → swap_is ≡ Ok l → b₁ ≡ link_put b found l → Follows (told true (byte b₁ (wanted.pointer + 1))) a → Took a b₂
    unfolding read
    was_done l e put_is follows =
        let row_is = follows me its t.lock l in
        let linked : b₁ ≡ put (with_shared t me.prev (with_link l its)) b =
        put_is ∙ ap (λ (x : List ℕ). link_put x found l) (at_first b is.0 bytes) ∙ sym (put_link t b (room b is.0 bytes) me.prev l prev_known.0 prev_known.1) in
        leaving a (goes a.stage me) (with_link l its) Joined refl (ap (after9 me its t.lock) e ∙ row_is) (ap (λ (x : Stepped). x.answer) (sym row_is))
        (stored ∙ ap (λ (x : List ℕ). set x (record_at b p) a.stage) linked
        ∙ sym (put_stage (with_shared t me.prev (with_link l its)) b (room b is.0 bytes) p a.stage is.1 is.2))

    was_failed : (l : Link) → swap_is ≡ Err l → b₁ ≡ link_put b wanted l → Follows (told false (byte b₁ (wanted.pointer + 1))) a → Took a b₂
    unfolding read
    was_failed l e put_is follows =
        let mark : l.mark ≡ byte b₁ (wanted.pointer + 1) = sym (ap (λ (x : List ℕ). byte x (wanted.pointer + 1)) put_is ∙ mark_put b wanted l (omega (arith, fits, is.1, is.2)) (omega arith)) in
        let row_is = follows me its t.lock l mark in
        leaving a (goes a.stage (with_w l me)) its Done refl (ap (after9 me its t.lock) e ∙ row_is) (ap (λ (x : Stepped). x.answer) (sym row_is))
        (stored ∙ ap (λ (x : List ℕ). set x (record_at b p) a.stage) (put_is ∙ ap (λ (x : List ℕ). link_put x wanted l) (at_first b is.0 bytes))
        ∙ sym (put_w t b (room b is.0 bytes) p a.stage l is.1 is.2)
        ∙ ap (λ (f : ℕ → Shared). put (record { n = t.n; private = upd t.private p (goes a.stage (with_w l me)); shared = f; lock = t.lock; log = t.log }) b) (sym (upd_kept t.shared me.prev)))

    by_what : (s : Swapped) → swap_is ≡ s → (done : Bool) → done ≡ (left s b found wanted).0 → b₁ ≡ (left s b found wanted).1 → Follows (told done (byte b₁ (wanted.pointer + 1))) a → Took a b₂
    unfolding left
    by_what (Ok l) e done says put_is follows = was_done l e put_is (subst (λ (x : Bool). Follows (told x (byte b₁ (wanted.pointer + 1))) a) says follows)
    by_what (Err l) e done says put_is follows = was_failed l e put_is (subst (λ (x : Bool). Follows (told x (byte b₁ (wanted.pointer + 1))) a) says follows)

    took : (done : Bool) → (done ≡ (swapped_in (next size) b found wanted p).0) × (b₁ ≡ (swapped_in (next size) b found wanted p).1) → Follows (told done (byte b₁ (wanted.pointer + 1))) a → Took a b₂
    took done swaps = by_what swap_is refl done (swaps.0 ∙ ap (λ (x : Bool × List ℕ). x.0) swapped_there) (swaps.1 ∙ ap (λ (x : Bool × List ℕ). x.1) swapped_there)

  -- so the step is taken
  says_so : (a : After) (b₂ : List ℕ) → Took a b₂ → Says p b (Ok a.answer.number) b₂
  says_so a b₂ took =
      by_answer p b (answer_said b p is a.answer took.answer_is)
      (steps b p is (ap (λ (k : ℕ). eqb k 0 || eqb k 13) at_nine) a.answer
      (no_left _ _ (ap (λ (x : Answer). admits x.event) (sym took.answer_is) ∙ took.quiet)) took.answer_is took.leaves_it)

  pub prev_read : (at : ℕ) → at ≡ record_at b p → (1 ≤ byte b (at + 2)) × (byte b (at + 2) ≤ modules b)
  prev_read at e = subst⁻¹ (λ (q : ℕ). (1 ≤ q) × (q ≤ modules b)) (prev_is at e) prev_known

  -- the whole step, by the places that the code works out
  pub step_there : (at other : ℕ) (l w : Place) (done : Bool) (said : Result (Unit {0}) ℕ) (a : After) {b₁ b₂ : List ℕ} → at ≡ record_at b p → other ≡ record_at b (byte b (at + 2)) → l ≡ link_place other → w ≡ w_place at
      → (done ≡ (swapped_in (next size) b l w p).0) × (b₁ ≡ (swapped_in (next size) b l w p).1) → said ≡ told done (byte b₁ (at + 4)) → Follows said a → b₂ ≡ set b₁ at a.stage → Says p b (Ok a.answer.number) b₂
  step_there at other l w done said a {b₁} {b₂} here there l_is w_is swaps said_is follows stored =
      let l_there : l ≡ found = l_is ∙ ap link_place (there ∙ ap (record_at b) (prev_is at here)) in
      let w_there : w ≡ wanted = w_is ∙ ap w_place here in
      let mark : at + 4 ≡ wanted.pointer + 1 = omega arith in
      says_so a b₂
      (took a (stored ∙ ap (λ (i : ℕ). set b₁ i a.stage) here) done
      (swaps.0 ∙ ap₂ (λ (x y : Place). (swapped_in (next size) b x y p).0) l_there w_there, swaps.1 ∙ ap₂ (λ (x y : Place). (swapped_in (next size) b x y p).1) l_there w_there)
      (subst (λ (i : ℕ). Follows (told done (byte b₁ i)) a) mark (subst (λ (x : Result (Unit {0}) ℕ). Follows x a) said_is follows)))
