-- From the begin of a release of p until the next first, q, is admitted fewer than 6n accepted turns pass: five steps of p are waited for, and then one
-- of q, which has taken its step of stage 11 by then. Assumes nothing.
use Prim.Native.Nat.{ℕ, zero, suc, ◌+◌, ◌*◌, ◌≤◌}
use mathlib.Core.Path.{◌≡◌, refl, sym, ◌∙◌, ap, subst, subst⁻¹, transport}
use mathlib.Core.Bool.{true, false, ◌||◌, true≢false}
use mathlib.Core.List.{List, [], ◌∷◌, ◌++◌}
use mathlib.Core.Logic.{◌⊎◌, inl, inr, ⊎_elim}
use lib.Dec.{T, eqb, leb}
use lib.ListN.{length}
use borrow.Author.Tests.{le-leb}
use native.Mathlib.Omega.{arith}
use Rattle.laws.proofs.Cases.{test}
use Rattle.laws.proofs.Only.{among, included}
use Rattle.link.specs.Count.{next, size}
use Rattle.stage.proofs.Around.{ahead_most}
use Rattle.stage.proofs.Update.{upd_same}
use Rattle.stage.specs.Answers.{answer_of, Reply}
use Rattle.stage.specs.Calls.{Call, set_up, begin_release, step, rests, refusals, refusing, answered, after, called}
use Rattle.stage.specs.Table.{Table, begun_release}
use Rattle.stage.specs.declared.Event.TheVariants.{Done}
use Rattle.stage.specs.declared.Private.{Private}
use Rattle.layout.specs.Layout.{length_for, read}
use Rattle.soundness.specs.SoundImage.{sound}
use Rattle.image.specs.Call.{refused, reply, image}
use Rattle.line.proofs.Invariant.{leavers, waiters}
use Rattle.line.proofs.Release.{busy, Begun, Leaves, Freed, Goes, HandsOn}
use Rattle.line.proofs.ReleaseRows.{among_each}
use Rattle.line.specs.Corollaries.{step_in, steps_now}
use Rattle.line.specs.Demand3.{Premise}
use Rattle.line.specs.History.{Ongoing, accepted, heard, course, state, transcript}
use Rattle.line.specs.PlainLine.{Place}
use Rattle.claims.proofs.Counting.{How, turned, WithinPast, stays_within, steps_within, other_within}
use Rattle.claims.proofs.HandingOn.{today_hands_on}
use Rattle.claims.proofs.Images.{leaves_is, shown, known, read_idle}
use Rattle.claims.proofs.Promises.{start_shows}
use Rattle.claims.proofs.Turns.{able_known, calls_stay, after_turn}
use Rattle.claims.specs.Claims.{images}
use Rattle.claims.specs.Turns.{Move, call, turn, Past, past, Admits, GoOn, HandedOn}
use Rattle.std.specs.Prelude.{Ok}

-- who is about to leave, leaving or waiting can step
busy_able : (k : ℕ) → T (among k busy) → (eqb k 0 || eqb k 13) ≡ false
busy_able = among_each (λ k. (eqb k 0 || eqb k 13) ≡ false) busy (refl, (refl, (refl, (refl, (refl, (refl, (refl, tt)))))))

-- A release of p that begins after the calls cs on the image b.
module _ (b : List ℕ) (is : sound b ≡ true) (hands : HandsOn images b size) (cs : List Call) (p : ℕ) where
  abbrev begun : List Call
  begun = begin_release p ∷ cs

  abbrev s : List ℕ
  s = state images b begun

  abbrev n : ℕ
  n = (read s).n

  -- the image after further calls, and the line
  abbrev now : List Call → List ℕ
  now xs = state images s xs

  abbrev line : List Call → List Place
  line xs = (course (transcript images b (xs ++ begun))).line

  appended : (xs : List Call) → now xs ≡ state images b (xs ++ begun)
  unfolding state
  appended [] = refl
  appended (c ∷ xs) = ap (image c) (appended xs)

  goes : (c : Call) (xs : List Call) → Ongoing c → Premise images b size (c ∷ xs ++ begun)
      → Goes c (reply c (now xs)) (read (now xs)) (line xs) (read (now (c ∷ xs))) (line (c ∷ xs))
  goes c xs on z =
      transport
      (λ i. Goes c (reply c (sym (appended xs) i)) (read (sym (appended xs) i)) (line xs) (read (sym (appended (c ∷ xs)) i)) (line (c ∷ xs)))
      (hands c (xs ++ begun) on z)

  -- turns for p's leave, and for each of its steps after it
  unfoldable budget : ℕ → ℕ
  budget zero = n + n
  budget (suc j) = budget j + n

  -- How far it has come after the moves x. p is about to leave:
  abbrev Leaving : Past → Type 0
  Leaving x = Begun p (read (now x.calls)) (line x.calls) × WithinPast n 0 n p x

  -- while q has a step to take before it waits for its admission
  abbrev Opens : ℕ → Past → Type 0
  Opens q x = ((read (now x.calls)).private q).stage ≡ 11 → WithinPast n 1 (n + n) q x

  -- p has left, and taken j steps since; q is first
  record Left (x : Past) : Type 0 where
    j : ℕ
    q : ℕ
    leaves : Leaves p q (read (now x.calls)) (line x.calls)
    at : ((read (now x.calls)).private p).stage ≡ 15 + j
    own : WithinPast n 0 (budget j) p x
    opens : Opens q x

  -- q is freed
  record Free (x : Past) : Type 0 where
    q : ℕ
    freed : Freed q (read (now x.calls))
    own : WithinPast n 1 (6 * n) q x
    opens : Opens q x

  abbrev Way : Past → Type 0
  Way x = Admits (transcript images s x.calls) ⊎ (((read (now x.calls)).n ≡ n) × (Leaving x ⊎ (Left x ⊎ Free x)))

  budget_most : (j : ℕ) → T (among (15 + j) leavers) → budget j ≤ 5 * n
  unfolding budget
  budget_most j v =
      among_each (λ k. (i : ℕ) → k ≡ 15 + i → budget i ≤ 5 * n) leavers
      (at_j 0 (omega arith), (at_j 1 (omega arith), (at_j 2 (omega arith), (at_j 3 (omega arith), tt))))
      (15 + j) v j refl
    where
      at_j : (k : ℕ) → budget k ≤ 5 * n → (i : ℕ) → 15 + k ≡ 15 + i → budget i ≤ 5 * n
      at_j k few i e = subst (λ (z : ℕ). budget z ≤ 5 * n) (let same : k ≡ i = omega arith in same) few

  -- One call more: what it said and did, and whether it was an accepted turn.
  module _ (c : Call) (x : Past) (m' : ℕ) (served' : List ℕ) where
    abbrev x' : Past
    x' = record { calls = c ∷ x.calls; marker = m'; served = served' }

    abbrev here : List ℕ
    here = now x.calls

    abbrev there : List ℕ
    there = now x'.calls

    abbrev r : Reply
    r = reply c here

    module _ (g : Goes c r (read here) (line x.calls) (read there) (line x'.calls)) (how : How here c r x x') (same : (read here).n ≡ n) where
      able : (t : List ℕ) (a : ℕ) → T (among ((read t).private a).stage busy) → rests (read t) a ≡ false
      able t a v = busy_able ((read t).private a).stage v

      -- whoever is busy is a module, before the call and after it
      module_here : (a : ℕ) → T (among ((read here).private a).stage busy) → (1 ≤ a) × (a ≤ n)
      module_here a v = let k = able_known here a (able here a v) in (k.0, subst (λ (z : ℕ). a ≤ z) same k.1)

      module_there : (a : ℕ) → T (among ((read there).private a).stage busy) → (1 ≤ a) × (a ≤ n)
      module_there a v = let k = able_known there a (able there a v) in (k.0, subst (λ (z : ℕ). a ≤ z) (g.same_n ∙ same) k.1)

      stays : (e k a : ℕ) → T (among ((read here).private a).stage busy) → steps_now a (step_in c r) ≡ false → WithinPast n e k a x → WithinPast n e k a x'
      stays e k a v = let i = module_here a v in stays_within n here c r x x' same a i.0 i.1 how e k (able here a v)

      waits : (q : ℕ) (t : List ℕ) → T (among ((read t).private q).stage waiters) → T (among ((read t).private q).stage busy)
      waits q t w = included waiters busy tt ((read t).private q).stage w

      -- q steps, and is not at 11 then, or does not
      opens_on : (q : ℕ) → T (among ((read here).private q).stage waiters) → Opens q x → Opens q x'
      opens_on q w old z =
          ⊎_elim (λ e. absurd (g.waiter_steps q e w z)) (λ e. stays 1 (n + n) q (waits q here w) e (old (sym (g.waiter_stays q e w) ∙ z))) (test (steps_now q (step_in c r)))

      from_leaving : Leaving x → Leaving x' ⊎ Left x'
      unfolding budget
      from_leaving l =
          let v : T (among ((read here).private p).stage busy) = subst⁻¹ (λ (k : ℕ). T (among k busy)) l.0.0 tt in
          ⊎_elim
          (λ e.
          let left = g.begun_steps p e l.0 in
          let i = module_here p v in
          let q = left.1.0 in
          let i_q = module_there q (waits q there left.1.1.waiter) in
          inr (record {
            j = 0;
            q = q;
            leaves = left.1.1;
            at = left.0;
            own = steps_within n here c r x x' same p i.0 i.1 how 0 n l.1.0;
            opens = λ _. other_within n here c r x x' same q i_q.0 i_q.1 how n p left.1.1.other e (omega (arith, l.1.0));
          }))
          (λ e. inl (g.begun_stays p e l.0, stays 0 n p v e l.1))
          (test (steps_now p (step_in c r)))

      from_left : Left x → Left x' ⊎ Free x'
      unfolding budget
      from_left l =
          let v : T (among ((read here).private p).stage busy) = included leavers busy tt ((read here).private p).stage l.leaves.leaver in
          let i = module_here p v in
          let q = l.q in
          let opens = opens_on q l.leaves.waiter l.opens in
          ⊎_elim
          (λ e. ⊎_elim
          (λ on. inl (record {
            j = suc l.j;
            q = q;
            leaves = on.1;
            at = let was = l.at in let goes_on = on.0 in omega arith;
            own = steps_within n here c r x x' same p i.0 i.1 how 0 (budget l.j) l.own.0;
            opens = opens;
          }))
          (λ end.
          let i_q = module_there q (waits q there end.1.waiter) in
          let last_j : l.j ≡ 3 = (let was = l.at in let at_18 = end.0 in omega arith) in
          inr (record {
            q = q;
            freed = end.1;
            own =
                subst (λ (k : ℕ). WithinPast n 1 k q x') (ap (λ (z : ℕ). budget z + n) last_j ∙ (let sum : budget 3 + n ≡ 6 * n = omega arith in sum))
                (other_within n here c r x x' same q i_q.0 i_q.1 how (budget l.j) p l.leaves.other e (omega (arith, l.own.0)));
            opens = opens;
          }))
          (g.leaves_steps p q e l.leaves))
          (λ e.
          let on = g.leaves_stays p q e l.leaves in
          inl (record { j = l.j; q = q; leaves = on.1; at = on.0 ∙ l.at; own = stays 0 (budget l.j) p v e l.own; opens = opens }))
          (test (steps_now p (step_in c r)))

      from_free : Free x → Admits (transcript images s x'.calls) ⊎ Free x'
      unfolding Admits transcript
      from_free f =
          let q = f.q in
          let v = waits q here f.freed.waiter in
          let i = module_here q v in
          let opens = opens_on q f.freed.waiter f.opens in
          ⊎_elim
          (λ e. ⊎_elim
          (λ on.
          let few = steps_within n here c r x x' same q i.0 i.1 how 1 (n + n) (f.opens on.0).0 in
          inr (record { q = q; freed = on.1; own = (let a = few.0 in omega arith, λ low high. let a = few.1 low high in omega arith); opens = opens }))
          (λ admitted. inl (inl admitted))
          (g.freed_steps q e f.freed))
          (λ e. inr (record { q = q; freed = g.freed_stays q e f.freed; own = stays 1 (6 * n) q v e f.own; opens = opens }))
          (test (steps_now q (step_in c r)))

  -- the same of the whole way
  one_call : (c : Call) (x : Past) (m' : ℕ) (served' : List ℕ) → Ongoing c → Premise images b size (c ∷ x.calls ++ begun)
      → How (now x.calls) c (reply c (now x.calls)) x (record { calls = c ∷ x.calls; marker = m'; served = served' })
      → Way x → Way (record { calls = c ∷ x.calls; marker = m'; served = served' })
  unfolding Admits transcript
  one_call c x m' served' on z how (inl admitted) = inl (inr admitted)
  one_call c x m' served' on z how (inr (same, far)) =
      let g = goes c x.calls on z in
      let n_same = g.same_n ∙ same in
      ⊎_elim
      (λ l. inr (n_same, ⊎_elim inl (λ k. inr (inl k)) (from_leaving c x m' served' g how same l)))
      (⊎_elim
      (λ l. inr (n_same, inr (from_left c x m' served' g how same l)))
      (λ f. ⊎_elim inl (λ k. inr (n_same, inr (inr k))) (from_free c x m' served' g how same f)))
      far

  -- whom a turn that finds nobody would have found
  not_all : (x : Past) → ((read (now x.calls)).n ≡ n) × (Leaving x ⊎ (Left x ⊎ Free x)) → ((i : ℕ) → 1 ≤ i → i ≤ (read (now x.calls)).n → rests (read (now x.calls)) i ≡ true) → ⊥
  not_all x (same, far) all =
      ⊎_elim
      (λ l. moves p (subst⁻¹ (λ (k : ℕ). T (among k busy)) l.0.0 tt))
      (⊎_elim
      (λ l. moves p (included leavers busy tt (stage p) l.leaves.leaver))
      (λ f. moves f.q (included waiters busy tt (stage f.q) f.freed.waiter)))
      far
    where
      stage : ℕ → ℕ
      stage a = ((read (now x.calls)).private a).stage

      moves : (a : ℕ) → T (among (stage a) busy) → ⊥
      moves a v =
          let can = busy_able (stage a) v in
          let k = able_known (now x.calls) a can in
          true≢false (sym (all a k.0 k.1) ∙ can)

  module _ (m : ℕ) (sound_s : sound s ≡ true) (begins : Leaving (past s m [])) where
    way : (ms : List Move) → GoOn ms → Premise images b size ((past s m ms).calls ++ begun) → Way (past s m ms)
    unfolding past GoOn Premise state
    way [] on z = inr (refl, inl begins)
    way (call c ∷ earlier) on z = one_call c (past s m earlier) _ _ on.0 z (inl (refl, refl)) (way earlier on.1 z.1)
    way (turn ∷ earlier) on z =
        after_turn s m sound_s earlier (λ x. Premise images b size (x.calls ++ begun) → Way x)
        (λ _ z. way earlier on z)
        (λ all z. ⊎_elim inl (λ far. absurd (not_all (past s m earlier) far all)) (way earlier on z))
        (λ q k _ _ z. one_call (step q) (past s m earlier) _ _ tt z (inl (refl, refl)) (way earlier on z.1))
        (λ q a serves says z. one_call (step q) (past s m earlier) _ _ tt z (inr (q, turned (past s m earlier) q serves a says)) (way earlier on z.1))
        z

    pub admitted : (ms : List Move) → GoOn ms → Premise images b size ((past s m ms).calls ++ begun)
        → 6 * n ≤ length (past s m ms).served + 1 → Admits (transcript images s (past s m ms).calls)
    admitted ms on z many =
        ⊎_elim (λ a. a)
        (λ far. absurd
        (⊎_elim (λ l. omega (arith, l.1.0, many))
        (⊎_elim (λ l. omega (arith, l.own.0, budget_most l.j (subst (λ (k : ℕ). T (among k leavers)) l.at l.leaves.leaver), many))
        (λ f. omega (arith, f.own.0, many)))
        far.1))
        (way ms on z)

  -- the begin
  module _ (at_13 : ((read (state images b cs)).private p).stage ≡ 13) (two : 2 ≤ length (course (transcript images b cs)).line) where
    abbrev b₀ : List ℕ
    b₀ = state images b cs

    sound_0 : sound b₀ ≡ true
    sound_0 = calls_stay b is cs

    is_p : (1 ≤ p) × (p ≤ (read b₀).n)
    is_p = known (read b₀) (read_idle b₀) p (λ e. omega (arith, at_13, e))

    answers : reply (begin_release p) b₀ ≡ Ok (answer_of Done)
    unfolding reply refused refusals refusing answered
    answers = simp (sound_0, le-leb 1 p is_p.0, le-leb p (read b₀).n is_p.1, at_13)

    table_is : read s ≡ begun_release (read b₀) p
    unfolding state called refusals refusing after
    table_is =
        (leaves_is (length b₀) b₀ (read b₀) (shown b₀ sound_0) (begin_release p)).table
        ∙ (let z : (called (next size) (λ k. leb (length_for k) (length b₀)) (begin_release p) (read b₀)).1 ≡ begun_release (read b₀) p = simp (le-leb 1 p is_p.0, le-leb p (read b₀).n is_p.1, at_13) in z)

    at_14 : ((read s).private p).stage ≡ 14
    unfolding begun_release
    at_14 = ap (λ (t : Table). (t.private p).stage) table_is ∙ ap (λ (me : Private). me.stage) (upd_same (read b₀).private p _)

    same_line : line [] ≡ (course (transcript images b cs)).line
    unfolding transcript course heard accepted
    same_line = ap (λ (r : Reply). (heard (begin_release p) r (course (transcript images b cs))).line) answers

    begins : (m : ℕ) → Leaving (past s m [])
    unfolding past state
    begins m =
        let i = known (read s) (read_idle s) p (λ e. omega (arith, at_14, e)) in
        ((at_14, subst⁻¹ (λ (l : List Place). 2 ≤ length l) same_line two), (omega (arith, i.0, i.1), λ low high. let most = ahead_most n m p high i.0 i.1 in omega arith))

pub handed_on : HandedOn
handed_on n b some few room cs p m ms z at_13 two on many =
    let start = image (set_up n) b in
    let is = (start_shows n b some few room).is in
    admitted start is (today_hands_on n b some few room) cs p m (calls_stay start is (begin_release p ∷ cs)) (begins start is (today_hands_on n b some few room) cs p at_13 two m) ms on z many
