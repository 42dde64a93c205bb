-- Every call keeps a sound table sound, whatever its numbers and however counts change. Assumes nothing.
use Prim.Native.Nat.{ℕ, ◌≤◌}
use mathlib.Core.Path.{◌≡◌, refl}
use mathlib.Core.Bool.{Bool, true, false, ◌&&◌}
use mathlib.Core.List.{List, [], ◌∷◌}
use lib.Dec.{eqb, leb}
use lib.ListN.{length, length-append}
use borrow.Author.Tests.{eqb-true, leb-true, leb-false, le-leb, not-false}
use native.Mathlib.Omega.{arith}
use Rattle.laws.proofs.Cases.{both_hold, both_are}
use Rattle.stage.proofs.ByStage.{by_stage}
use Rattle.stage.proofs.Events.{Of, agrees}
use Rattle.stage.proofs.Every.{every_gives, every_holds, each_append}
use Rattle.stage.proofs.Refusing.{Unrefused, refused_or, is_within}
use Rattle.stage.proofs.Soundly.{SoundMe, SoundIts, private_facts, private_tests, shared_facts, shared_tests, row_sound}
use Rattle.stage.proofs.Update.{upd_all}
use Rattle.stage.specs.Calls.{Call, set_up, begin_acquisition, begin_release, step, take_log, within, capacity, admits, refusals, after, called}
use Rattle.stage.specs.Rows.{find, rows, looked, looks_at, stepped}
use Rattle.stage.specs.Sound.{sound_private, sound_shared, each, sound_table, KeepsSound}
use Rattle.stage.specs.Table.{Table, idle, untouched, fresh_table, begun_acquisition, begun_release, step_of, logged, after_step, log_taken}
use Rattle.stage.specs.declared.Event.{Event}
use Rattle.stage.specs.declared.Event.TheVariants.{Done, Waiting, Admitted, Joined, Left, Finished, Taken, Nobody}
use Rattle.stage.specs.declared.Private.{Private}
use Rattle.link.specs.Operations.{fresh}
use Rattle.stage.specs.Answers.{Reply}

-- the rules on a table, as facts
pub record Soundly (t : Table) : Type 0 where
  pub some : 1 ≤ t.n
  pub few : t.n ≤ 64
  pub held : length t.log ≤ 256
  pub entries : each (within 1 t.n) t.log ≡ true
  pub lock : t.lock ≤ t.n
  pub private : (p : ℕ) → 1 ≤ p → p ≤ t.n → SoundMe t.n (t.private p)
  pub shared : (p : ℕ) → 1 ≤ p → p ≤ t.n → SoundIts t.n (t.shared p)

pub table_facts : (t : Table) → sound_table t ≡ true → Soundly t
unfolding sound_table
table_facts t e =
    let a = both_hold _ _ e in
    let b = both_hold _ _ a.0 in
    let c = both_hold _ _ b.0 in
    let d = both_hold _ _ c.0 in
    let f = both_hold _ _ d.0 in
    let n = both_hold _ _ f.0 in
    record {
      some = leb-true _ _ n.0;
      few = leb-true _ _ n.1;
      held = leb-true _ _ f.1;
      entries = d.1;
      lock = leb-true _ _ c.1;
      private = λ p low high. private_facts t.n (t.private p) (every_gives t.n (λ q. sound_private t.n (t.private q)) b.1 p low high);
      shared = λ p low high. shared_facts t.n (t.shared p) (every_gives t.n (λ q. sound_shared t.n (t.shared q)) a.1 p low high);
    }

pub table_tests : (t : Table) → Soundly t → sound_table t ≡ true
unfolding sound_table
table_tests t s =
    both_are (both_are (both_are (both_are (both_are (both_are (le-leb _ _ s.some) (le-leb _ _ s.few)) (le-leb _ _ s.held)) s.entries) (le-leb _ _ s.lock))
    (every_holds t.n _ (λ p low high. private_tests t.n (t.private p) (s.private p low high))))
    (every_holds t.n _ (λ p low high. shared_tests t.n (t.shared p) (s.shared p low high)))

-- whoever's shared part a row looks at is a module
pub looks_known : (n p : ℕ) (me : Private) → 1 ≤ p → p ≤ n → SoundMe n me → (1 ≤ looks_at p me) × (looks_at p me ≤ n)
unfolding looks_at find rows
looks_known n p me low high s =
    by_stage (λ k. me.stage ≡ k → (1 ≤ looked (find rows k).looks p me) × (looked (find rows k).looks p me ≤ n))
    (λ e. (low, high))
    (λ e. (low, high))
    (λ e. (low, high))
    (λ e. (low, high))
    (λ e. (low, high))
    (λ e. (s.has_prev (omega arith) (omega arith), s.prev))
    (λ e. (s.has_prev (omega arith) (omega arith), s.prev))
    (λ e. (s.has_pointer (omega arith) (omega arith), s.pointer))
    (λ e. (low, high))
    (λ e. (s.has_prev (omega arith) (omega arith), s.prev))
    (λ e. (s.has_prev (omega arith) (omega arith), s.prev))
    (λ e. (low, high))
    (λ e. (low, high))
    (λ e. (low, high))
    (λ e. (low, high))
    (λ e. (low, high))
    (λ e. (low, high))
    (λ e. (s.has_s (omega arith) (omega arith), s.s))
    (λ e. (s.has_s (omega arith) (omega arith), s.s))
    (λ e. (low, high))
    me.stage s.stage refl

-- an admission is logged where there is room, and names a module
log_sound : (n p : ℕ) (log : List ℕ) (e : Event) → 1 ≤ p → p ≤ n → Of p e → length log ≤ 256 → each (within 1 n) log ≡ true → (admits e && leb capacity (length log)) ≡ false
    → (length (logged log e) ≤ 256) × (each (within 1 n) (logged log e) ≡ true)
unfolding logged
log_sound n p log Done low high o held entries room = (held, entries)
log_sound n p log Waiting low high o held entries room = (held, entries)
log_sound n p log (Admitted q) low high o held entries room = (
  omega (arith, length-append log (q ∷ []), leb-false capacity (length log) room),
  each_append (within 1 n) log q entries (both_are (le-leb 1 q (omega (arith, o))) (le-leb q n (omega (arith, o)))),
)
log_sound n p log Joined low high o held entries room = (held, entries)
log_sound n p log Left low high o held entries room = (held, entries)
log_sound n p log Finished low high o held entries room = (held, entries)
log_sound n p log (Taken k) low high o held entries room = (held, entries)
log_sound n p log Nobody low high o held entries room = (held, entries)

pub fresh_sound : (k : ℕ) → 1 ≤ k → k ≤ 64 → Soundly (fresh_table k)
unfolding fresh_table idle untouched fresh each
fresh_sound k some few =
    record {
      some = some;
      few = few;
      held = omega arith;
      entries = refl;
      lock = omega arith;
      private = λ p low high. omega arith;
      shared = λ p low high. omega arith;
    }

module _ (bump : ℕ → ℕ) (fits : ℕ → Bool) where
  pub accepted_sound : (c : Call) (t : Table) → Soundly t → Unrefused (refusals bump fits c t) → Soundly (after bump c t)
  unfolding refusals after each begun_acquisition begun_release step_of after_step log_taken
  accepted_sound (set_up k) t s u = let n = is_within 1 64 k u.0 in fresh_sound k n.0 n.1
  accepted_sound (begin_acquisition p r) t s u =
      let k = is_within 1 t.n p u.0 in
      let range = is_within 1 254 r u.1.0 in
      let mine = s.private p k.0 k.1 in
      record {
        some = s.some;
        few = s.few;
        held = s.held;
        entries = s.entries;
        lock = s.lock;
        private = upd_all t.private p _ (λ q me. 1 ≤ q → q ≤ t.n → SoundMe t.n me) (λ _ _. omega arith) (λ q n. s.private q);
        shared = upd_all t.shared p _ (λ q its. 1 ≤ q → q ≤ t.n → SoundIts t.n its) (λ _ _. let z = s.shared p k.0 k.1 in omega arith) (λ q n. s.shared q);
      }
  accepted_sound (begin_release p) t s u =
      let k = is_within 1 t.n p u.0 in
      let mine = s.private p k.0 k.1 in
      let e = eqb-true (t.private p).stage 13 (not-false (eqb (t.private p).stage 13) u.1.0) in
      let o = mine.busy (omega arith) in
      record {
        some = s.some;
        few = s.few;
        held = s.held;
        entries = s.entries;
        lock = s.lock;
        private = upd_all t.private p _ (λ q me. 1 ≤ q → q ≤ t.n → SoundMe t.n me) (λ _ _. omega arith) (λ q n. s.private q);
        shared = s.shared;
      }
  accepted_sound (step p) t s u =
      let k = is_within 1 t.n p u.0 in
      let me = t.private p in
      let x = looks_at p me in
      let mine = s.private p k.0 k.1 in
      let there = looks_known t.n p me k.0 k.1 mine in
      let r = row_sound t.n p k.1 me (t.shared x) t.lock mine (s.shared x there.0 there.1) s.lock bump in
      let l = log_sound t.n p t.log (stepped bump p me (t.shared x) t.lock).answer.event k.0 k.1
      (agrees bump p me (t.shared x) t.lock mine.stage).itself s.held s.entries u.1.1.0 in
      record {
        some = s.some;
        few = s.few;
        held = l.0;
        entries = l.1;
        lock = r.lock;
        private = upd_all t.private p _ (λ q me. 1 ≤ q → q ≤ t.n → SoundMe t.n me) (λ _ _. r.me) (λ q n. s.private q);
        shared = upd_all t.shared x _ (λ q its. 1 ≤ q → q ≤ t.n → SoundIts t.n its) (λ _ _. r.its) (λ q n. s.shared q);
      }
  accepted_sound (take_log room) t s u =
      record { some = s.some; few = s.few; held = omega arith; entries = refl; lock = s.lock; private = s.private; shared = s.shared }

pub keeps_sound : KeepsSound
unfolding called
keeps_sound bump fits c t e =
    refused_or (λ (r : Reply × Table). sound_table r.1 ≡ true) (refusals bump fits c t) _ _ (λ k. e)
    (λ u. table_tests (after bump c t) (accepted_sound bump fits c t (table_facts t e) u))
