-- Turns on sound images: what a turn comes to, that histories with turns are those of the contracts, and that turns are fair. Assumes nothing.
use Prim.Native.Nat.{ℕ, ◌+◌, ◌≤◌, ◌<◌}
use mathlib.Core.Path.{◌≡◌, refl, sym, ◌∙◌, ap, subst, subst⁻¹}
use mathlib.Core.Bool.{true, false, cond, not, ◌||◌, and-false, true≢false}
use mathlib.Core.List.{List, [], ◌∷◌}
use mathlib.Core.Logic.{◌⊎◌, inl, inr, ⊎_elim}
use lib.Dec.{eqb}
use lib.ListN.{length}
use borrow.Author.Tests.{le-leb, lt-leb, not-true, not-false}
use native.Mathlib.Omega.{arith}
use Rattle.laws.proofs.Cases.{choose, both_are}
use Rattle.link.specs.Count.{next, size}
use Rattle.stage.proofs.Around.{ahead, ahead_most, first_around, first_closer}
use Rattle.stage.proofs.Refusing.{refused_or, is_within}
use Rattle.stage.proofs.Events.{Of, agrees}
use Rattle.stage.specs.Answers.{number_of, answer_of, Reply}
use Rattle.stage.specs.Calls.{Call, set_up, begin_acquisition, begin_release, step, take_log, within, capacity, rests, refusals, refusing, answered, after, called}
use Rattle.stage.specs.Rows.{looks_at}
use Rattle.stage.specs.Table.{Table, idle, fresh_table, begun_acquisition, begun_release, step_of, after_step, log_taken}
use Rattle.stage.specs.Turns.{next_after}
use Rattle.stage.specs.declared.Answer.{Answer}
use Rattle.stage.specs.declared.Event.{Event}
use Rattle.stage.specs.declared.Event.TheVariants.{Done, Waiting, Admitted, Joined, Left, Finished, Taken, Nobody}
use Rattle.layout.specs.Layout.{read}
use Rattle.soundness.specs.SoundImage.{sound}
use Rattle.image.proofs.Sound as Sound
use Rattle.image.specs.Call.{refused, reply, image}
use Rattle.image.specs.Turn as T
use Rattle.image.specs.Turn.{Turn, nobody, step_by, turn_of, found, moved, Gives}
use Rattle.line.specs.Corollaries.{OneOf}
use Rattle.line.specs.History.{state}
use Rattle.claims.proofs.Images.{leaves_is, shown, known, read_idle}
use Rattle.claims.proofs.Promises.{stays_sound}
use Rattle.claims.specs.Claims.{images}
use Rattle.claims.specs.Turns.{Move, call, turn, Past, stepping, turning, past, image_after, Able, seen, Faithful, Fair, NotRefused}
use Rattle.std.specs.Prelude.{Some, Ok, Err}
use Rattle.stage.specs.declared.Refusal.{Refusal}
use Rattle.stage.specs.declared.Refusal.TheVariants.{WrongMarker}

-- histories of the contracts -----------------------------------------------------------------------------------------------------

-- what holds after a module's step, refused or accepted
stepping_or :
    (P : Reply → Past → Type 0) (q : ℕ) (x : Past)
    → ((k : Refusal) → P (Err k) (record { calls = step q ∷ x.calls; marker = x.marker; served = x.served }))
    → ((a : Answer) → P (Ok a) (record { calls = step q ∷ x.calls; marker = q; served = q ∷ x.served }))
    → (r : Reply) → P r (stepping q r x)
unfolding stepping
stepping_or P q x no_q yes_q (Err k) = no_q k
stepping_or P q x no_q yes_q (Ok a) = yes_q a

-- no step says that nobody can step
step_not_nine : (p : ℕ) (e : Event) → Of p e → eqb (number_of e) 9 ≡ false
step_not_nine p Done o = refl
step_not_nine p Waiting o = refl
step_not_nine p (Admitted q) o = refl
step_not_nine p Joined o = refl
step_not_nine p Left o = refl
step_not_nine p Finished o = refl
step_not_nine p (Taken k) o = absurd o
step_not_nine p Nobody o = absurd o

not_nine : (p : ℕ) (b : List ℕ) (a : Answer) → reply (step p) b ≡ Ok a → eqb a.number 9 ≡ false
unfolding reply refused refusals answered step_of
not_nine p b a =
    refused_or (λ (r : Reply). r ≡ Ok a → eqb a.number 9 ≡ false) (refused (step p) b) Err _
    (λ k e. absurd (let z : ◌≡◌ {A = ℕ} 0 1 = cc in omega arith))
    (λ u e.
    let t = read b in
    let s = Sound.table b (not-false (sound b) u.0) in
    let k = is_within 1 t.n p u.1.0 in
    let said = agrees (next size) p (t.private p) (t.shared (looks_at p (t.private p))) t.lock (s.private p k.0 k.1).stage in
    let same : (step_of (next size) t p).answer ≡ a = cc in
    subst (λ (z : Answer). eqb z.number 9 ≡ false) (sym said.number ∙ same) (step_not_nine p (step_of (next size) t p).answer.event said.itself))

module _ (b : List ℕ) (x : Past) where
  abbrev here : List ℕ
  here = state images b x.calls

  gives_is :
      (t : Turn) (r : Reply) (b' : List ℕ) (m' : ℕ) → Gives t here x.marker r b' m'
      → (b' ≡ state images b (turning t here x).calls) × (m' ≡ (turning t here x).marker) × (seen r m' x.served ≡ (turning t here x).served)
  unfolding turning state seen
  gives_is (T.refused k) r b' m' g = (g.1, g.2, ap (λ (z : Reply). seen z m' x.served) g.0)
  gives_is nobody r b' m' g = (g.1, g.2, ap (λ (z : Reply). seen z m' x.served) g.0)
  gives_is (step_by p) r b' m' g =
      stepping_or
      (λ r' y. r ≡ r' → reply (step p) here ≡ r' → (b' ≡ state images b y.calls) × (m' ≡ y.marker) × (seen r m' x.served ≡ y.served)) p x
      (λ k e _. (g.0.leaves, g.1 ∙ ap (moved p x.marker) e, ap (λ (z : Reply). seen z m' x.served) e))
      (λ a e says.
      let to = g.1 ∙ ap (moved p x.marker) e in (
        g.0.leaves,
        to,
        ap (λ (z : Reply). seen z m' x.served) e ∙ (λ i. cond (not_nine p here a says i) 0 (to i) ∷ x.served),
      ))
      (reply (step p) here) g.0.says refl

pub faithful : (b : List ℕ) (m : ℕ) (earlier : List Move) → Faithful b m earlier
unfolding past state
faithful b m earlier =
    let x = past b m earlier in
    record {
      calls = λ c r b' d. (d.leaves, refl);
      turns = gives_is b x (turn_of (here b x) x.marker);
    }

-- a turn -------------------------------------------------------------------------------------------------------------------------

-- the turn is q's step
pub record Serves (b : List ℕ) (m q : ℕ) : Type 0 where
  pub marker_low : 1 ≤ m
  pub marker_high : m ≤ (read b).n
  pub is_next : next_after (read b) m ≡ Some q
  pub low : 1 ≤ q
  pub high : q ≤ (read b).n
  pub able : rests (read b) q ≡ false

module _ (b : List ℕ) (m : ℕ) (is : sound b ≡ true) where
  -- what a turn on a sound image comes to
  pub turn_is :
      (P : Turn → Type 0)
      → (within 1 (read b).n m ≡ false → P (T.refused WrongMarker))
      → (1 ≤ m → m ≤ (read b).n → ((i : ℕ) → 1 ≤ i → i ≤ (read b).n → rests (read b) i ≡ true) → P nobody)
      → ((q : ℕ) → Serves b m q → P (step_by q))
      → P (turn_of b m)
  unfolding turn_of refusing next_after
  turn_is P outside none_can one =
      let n = (read b).n in
      choose P (not (sound b)) (λ e. absurd (true≢false (sym is ∙ not-true (sound b) e)))
      (λ _.
      choose P (not (within 1 n m)) (λ e. outside (not-true (within 1 n m) e))
      (λ e.
      let k = is_within 1 n m e in
      first_around (λ p. not (rests (read b) p)) n m k.1 (λ o. next_after (read b) m ≡ o → P (found o))
      (λ q low high can before is_next.
      one q
      (record {
        marker_low = k.0;
        marker_high = k.1;
        is_next = is_next;
        low = low;
        high = high;
        able = not-true (rests (read b) q) can;
      }))
      (λ all _. none_can k.0 k.1 (λ i low high. not-false (rests (read b) i) (all i low high)))
      refl))

-- whoever can step is served, or has fewer asked before it from then on
pub serves_closer :
    (b : List ℕ) (m q : ℕ) → Serves b m q
    → (p : ℕ) → 1 ≤ p → p ≤ (read b).n → rests (read b) p ≡ false → (p ≡ q) ⊎ (ahead (read b).n q p < ahead (read b).n m p)
unfolding next_after
serves_closer b m q s p low high can =
    let n = (read b).n in
    let c = first_closer (λ i. not (rests (read b) i)) n m s.marker_high p low high (ap not can) in
    let same : Some c.0 ≡ Some q = sym c.1 ∙ s.is_next in
    let e : c.0 ≡ q = cc in
    ⊎_elim (λ w. inl (sym w ∙ e)) (λ w. inr (subst (λ (i : ℕ). ahead n i p < ahead n m p) e w)) c.2

-- With room in the log the step of whoever is served is not refused.
step_answers :
    (b : List ℕ) (m q : ℕ) → sound b ≡ true → Serves b m q → length (read b).log < capacity
    → reply (step q) b ≡ Ok (answered (next size) (step q) (read b))
unfolding reply refused refusals refusing
step_answers b m q is s room = simp (is, le-leb 1 q s.low, le-leb q (read b).n s.high, s.able, lt-leb capacity (length (read b).log) room, and-false)

pub not_refused : NotRefused
not_refused b m is low high room r b' m' =
    turn_is b m is (λ t. Gives t b m r b' m' → (a : Answer) × (r ≡ Ok a))
    (λ outside g. absurd (true≢false (sym (both_are (le-leb 1 m low) (le-leb m (read b).n high)) ∙ outside)))
    (λ _ _ _ g. (answer_of Nobody, g.0))
    (λ q s g. (answered (next size) (step q) (read b), g.0.says ∙ step_answers b m q is s room))

-- moves --------------------------------------------------------------------------------------------------------------------------

-- the call is a set-up, after which nobody can step
abbrev pub Starts : Call → Table → Type 0
Starts c t = (k : ℕ) × (c ≡ set_up k) × ((p : ℕ) → rests t p ≡ true)

-- an accepted call leaves n, but for a set-up
keeps_n : (bump : ℕ → ℕ) (c : Call) (t : Table) → ((after bump c t).n ≡ t.n) ⊎ Starts c (after bump c t)
unfolding after fresh_table idle begun_acquisition begun_release after_step log_taken
keeps_n bump (set_up k) t = inr (k, refl, λ p. refl)
keeps_n bump (begin_acquisition p r) t = inl refl
keeps_n bump (begin_release p) t = inl refl
keeps_n bump (step p) t = inl refl
keeps_n bump (take_log room) t = inl refl

-- so does every call on a sound image
pub image_keeps_n : (c : Call) (b : List ℕ) → sound b ≡ true → ((read (image c b)).n ≡ (read b).n) ⊎ Starts c (read (image c b))
unfolding called
image_keeps_n c b is =
    subst⁻¹ (λ (t : Table). (t.n ≡ (read b).n) ⊎ Starts c t) (leaves_is (length b) b (read b) (shown b is) c).table
    (refused_or (λ (r : Reply × Table). (r.1.n ≡ (read b).n) ⊎ Starts c r.1) _ (λ k. (Err k, read b)) _ (λ k. inl refl)
    (λ _. keeps_n (next size) c (read b)))

-- p can step after the last move, and before it
pub able_now : (b : List ℕ) (m p : ℕ) (ms : List Move) → Able b m p ms → rests (read (image_after b m ms)) p ≡ false
unfolding Able past state
able_now b m p [] a = a
able_now b m p (x ∷ earlier) a = a.0

pub able_earlier : (b : List ℕ) (m p : ℕ) (x : Move) (earlier : List Move) → Able b m p (x ∷ earlier) → Able b m p earlier
unfolding Able
able_earlier b m p x earlier a = a.1

pub able_first : (b : List ℕ) (m p : ℕ) (ms : List Move) → Able b m p ms → rests (read b) p ≡ false
unfolding Able
able_first b m p [] a = a
able_first b m p (x ∷ earlier) a = able_first b m p earlier a.1

-- whoever can step is a module of the table
pub able_known : (b : List ℕ) (a : ℕ) → rests (read b) a ≡ false → (1 ≤ a) × (a ≤ (read b).n)
able_known b a can = known (read b) (read_idle b) a (λ e. true≢false (sym (ap (λ (k : ℕ). eqb k 0 || eqb k 13) e) ∙ can))

-- the image stays sound, over calls and over moves
pub calls_stay : (b : List ℕ) → sound b ≡ true → (cs : List Call) → sound (state images b cs) ≡ true
unfolding state
calls_stay b is [] = is
calls_stay b is (c ∷ cs) = (stays_sound c (state images b cs) (calls_stay b is cs)).0

module _ (b : List ℕ) (m : ℕ) (is : sound b ≡ true) where
  pub stays : (ms : List Move) → sound (image_after b m ms) ≡ true
  stays ms = calls_stay b is (past b m ms).calls

  -- what holds after a turn, however it came out
  pub after_turn :
      (earlier : List Move) (P : Past → Type 0)
      → let x = past b m earlier in
      let now = image_after b m earlier in
      (within 1 (read now).n x.marker ≡ false → P x)
      → (((i : ℕ) → 1 ≤ i → i ≤ (read now).n → rests (read now) i ≡ true) → P (record { calls = x.calls; marker = x.marker; served = 0 ∷ x.served }))
      → ((q : ℕ) (k : Refusal) → Serves now x.marker q → reply (step q) now ≡ Err k → P (record { calls = step q ∷ x.calls; marker = x.marker; served = x.served }))
      → ((q : ℕ) (a : Answer) → Serves now x.marker q → reply (step q) now ≡ Ok a
      → P (record { calls = step q ∷ x.calls; marker = q; served = q ∷ x.served }))
      → P (past b m (turn ∷ earlier))
  unfolding past turning
  after_turn earlier P outside none_can no_q yes_q =
      let x = past b m earlier in
      let now = image_after b m earlier in
      turn_is now x.marker (stays earlier) (λ t. P (turning t now x)) outside (λ _ _. none_can)
      (λ q s. stepping_or (λ r y. reply (step q) now ≡ r → P y) q x (λ k. no_q q k s) (λ a. yes_q q a s) (reply (step q) now) refl)

  module _ (p : ℕ) where
    -- one call on, where p can step after it
    call_keeps :
        (c : Call) (cs : List Call) → (read (state images b cs)).n ≡ (read b).n
        → rests (read (state images b (c ∷ cs))) p ≡ false → (read (state images b (c ∷ cs))).n ≡ (read b).n
    unfolding state
    call_keeps c cs old can =
        ⊎_elim (λ e. e ∙ old) (λ new. absurd (true≢false (sym (new.2 p) ∙ can))) (image_keeps_n c (state images b cs) (calls_stay b is cs))

    -- where p can always step, n stays
    pub n_stays : (ms : List Move) → Able b m p ms → (read (image_after b m ms)).n ≡ (read b).n
    unfolding past state
    n_stays [] a = refl
    n_stays (call c ∷ earlier) a =
        call_keeps c (past b m earlier).calls (n_stays earlier (able_earlier b m p (call c) earlier a)) (able_now b m p (call c ∷ earlier) a)
    n_stays (turn ∷ earlier) a =
        let old = n_stays earlier (able_earlier b m p turn earlier a) in
        after_turn earlier (λ x. rests (read (state images b x.calls)) p ≡ false → (read (state images b x.calls)).n ≡ (read b).n)
        (λ _ _. old) (λ _ _. old)
        (λ q k _ _. call_keeps (step q) (past b m earlier).calls old)
        (λ q r _ _. call_keeps (step q) (past b m earlier).calls old)
        (able_now b m p (turn ∷ earlier) a)

    module _ (low : 1 ≤ p) (high : p ≤ (read b).n) where
      abbrev n : ℕ
      n = (read b).n

      -- p was served, or the accepted turns are fewer than n, even with as many more as will be asked before p
      abbrev pub Due : Past → Type 0
      Due x =
          OneOf p x.served
          ⊎ ((length x.served < n) × (1 ≤ x.marker → x.marker ≤ n → length x.served + ahead n x.marker p < n))

      served_more :
          (q : ℕ) (x : Past)
          → let now = state images b x.calls in
          Serves now x.marker q → (read now).n ≡ n → rests (read now) p ≡ false
          → Due x → Due (record { calls = step q ∷ x.calls; marker = q; served = q ∷ x.served })
      served_more q x s same can (inl i) = inl (inr i)
      served_more q x s same can (inr d) =
          ⊎_elim (λ e. inl (inl e))
          (λ closer.
          let less : ahead n q p < ahead n x.marker p = subst (λ (k : ℕ). ahead k q p < ahead k x.marker p) same closer in
          let old = d.1 s.marker_low (subst (λ (k : ℕ). x.marker ≤ k) same s.marker_high) in
          inr (omega arith, λ _ _. omega arith))
          (serves_closer (state images b x.calls) x.marker q s p low (subst⁻¹ (λ (k : ℕ). p ≤ k) same high) can)

      pub due : (ms : List Move) → Able b m p ms → Due (past b m ms)
      unfolding past
      due [] a = inr (omega arith, λ _ high_m. let z = ahead_most n m p high_m low high in omega arith)
      due (call c ∷ earlier) a = due earlier (able_earlier b m p (call c) earlier a)
      due (turn ∷ earlier) a =
          let before = able_earlier b m p turn earlier a in
          let old = due earlier before in
          let can = able_now b m p earlier before in
          let same = n_stays earlier before in
          after_turn earlier Due (λ _. old)
          (λ all. absurd (true≢false (sym (all p low (subst⁻¹ (λ (k : ℕ). p ≤ k) same high)) ∙ can)))
          (λ q k _ _. old)
          (λ q r s _. served_more q (past b m earlier) s same can old)

pub fair : Fair
fair b m is ms p can many =
    let k = able_known b p (able_first b m p ms can) in
    ⊎_elim (λ i. i) (λ d. absurd (omega (arith, d.0, many))) (due b m is p k.0 k.1 ms can)
