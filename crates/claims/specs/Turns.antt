-- Document 02, R-2, of histories on images: calls, and turns with one marker.
use Rattle.std.specs.Prelude.{ℕ, zero, suc, ◌+◌, ◌*◌, ◌≤◌, ◌<◌, ◌≡◌, true, false, cond, List, [], ◌∷◌, ◌++◌, ◌⊎◌, eqb, length, Ok, Err}
use Rattle.link.specs.Count.{size}
use Rattle.stage.specs.Answers.{answer_of, Reply}
use Rattle.stage.specs.Calls.{Call, set_up, begin_acquisition, begin_release, step, rests, capacity}
use Rattle.stage.specs.declared.Answer.{Answer}
use Rattle.stage.specs.declared.Event.TheVariants.{Admitted}
use Rattle.layout.specs.Layout.{read}
use Rattle.soundness.specs.SoundImage.{sound}
use Rattle.image.specs.Call.{Does, reply, image}
use Rattle.image.specs.Turn.{Turn, refused, nobody, step_by, turn_of, GivesTurn}
use Rattle.line.specs.Corollaries.{OneOf}
use Rattle.line.specs.Demand3.{Premise}
use Rattle.line.specs.History.{Transcript, Ongoing, course, state, table, transcript}
use Rattle.claims.specs.Claims.{images, OfFresh}

pub data Move : Type 0 where
  call : Call → Move
  turn : Move

-- What moves come to, the latest first: the calls that have the same effect on the image, a turn being the step of the module that it serves; the
-- marker; and whom each accepted turn stepped, 0 where it found nobody.
pub record Past : Type 0 where
  pub calls : List Call
  pub marker : ℕ
  pub served : List ℕ

unfoldable pub stepping : ℕ → Reply → Past → Past
stepping p (Err k) x = record { calls = step p ∷ x.calls; marker = x.marker; served = x.served }
stepping p (Ok a) x = record { calls = step p ∷ x.calls; marker = p; served = p ∷ x.served }

-- a turn, one that is made on the image b
unfoldable pub turning : Turn → List ℕ → Past → Past
turning (refused k) b x = x
turning nobody b x = record { calls = x.calls; marker = x.marker; served = 0 ∷ x.served }
turning (step_by p) b x = stepping p (reply (step p) b) x

-- A list of moves, the latest first, from the image b and the marker m.
module _ (b : List ℕ) (m : ℕ) where
  unfoldable pub past : List Move → Past
  past [] = record { calls = []; marker = m; served = [] }
  past (call c ∷ earlier) = let x = past earlier in record { calls = c ∷ x.calls; marker = x.marker; served = x.served }
  past (turn ∷ earlier) =
      let x = past earlier in
      let here = state images b x.calls in
      turning (turn_of here x.marker) here x

  -- the image after it
  abbrev pub image_after : List Move → List ℕ
  image_after ms = state images b (past ms).calls

  -- "a module at neither stage 0 nor 13 over" all of it
  unfoldable pub Able : ℕ → List Move → Type 0
  Able p [] = rests (read b) p ≡ false
  Able p (x ∷ earlier) = (rests (read (image_after (x ∷ earlier))) p ≡ false) × Able p earlier

-- whom the accepted turns stepped, as a caller sees it: a turn said r and left the marker m; 9 is that nobody can step
unfoldable pub seen : Reply → ℕ → List ℕ → List ℕ
seen (Err k) m served = served
seen (Ok a) m served = cond (eqb a.number 9) 0 m ∷ served

-- That these histories are those of the contracts: what the contract of a call, and that of a turn, says of the image and the marker after it, and
-- what the caller makes of it.
pub record Faithful (b : List ℕ) (m : ℕ) (earlier : List Move) : Type 0 where
  pub calls :
      (c : Call) (r : Reply) (b' : List ℕ) → Does c (image_after b m earlier) r b'
      → (b' ≡ image_after b m (call c ∷ earlier)) × ((past b m earlier).marker ≡ (past b m (call c ∷ earlier)).marker)
  pub turns :
      (r : Reply) (b' : List ℕ) (m' : ℕ) → GivesTurn (image_after b m earlier) (past b m earlier).marker r b' m'
      → (b' ≡ image_after b m (turn ∷ earlier))
      × (m' ≡ (past b m (turn ∷ earlier)).marker)
      × (seen r m' (past b m earlier).served ≡ (past b m (turn ∷ earlier)).served)

-- "It is proved that a module at neither stage 0 nor 13 over n accepted turns is stepped in one of them, whatever calls for other modules fall
-- between." Of every sound image, reached or not, with any marker, and whatever calls fall between.
abbrev pub Fair : Type 0
Fair =
    (b : List ℕ) (m : ℕ) → sound b ≡ true
    → (ms : List Move) (p : ℕ) → Able b m p ms
    → (read b).n ≤ length (past b m ms).served → OneOf p (past b m ms).served

-- With room in the log a turn is not refused.
abbrev pub NotRefused : Type 0
NotRefused =
    (b : List ℕ) (m : ℕ) → sound b ≡ true → 1 ≤ m → m ≤ (read b).n → length (read b).log < capacity
    → (r : Reply) (b' : List ℕ) (m' : ℕ) → GivesTurn b m r b' m' → (a : Answer) × (r ≡ Ok a)

-- somebody was admitted
unfoldable pub Admits : Transcript → Type 0
Admits [] = ⊥
Admits (x ∷ earlier) = ((q : ℕ) × (x.1 ≡ Ok (answer_of (Admitted q)))) ⊎ Admits earlier

-- no set-up among them
unfoldable pub GoOn : List Move → Type 0
GoOn [] = Unit {0}
GoOn (call c ∷ earlier) = Ongoing c × GoOn earlier
GoOn (turn ∷ earlier) = GoOn earlier

-- From the begin of a release of p, which is inside while somebody waits in the line, 6n - 1 accepted turns do not pass without an admission. In
-- demand 3's histories, whatever calls fall between; by demand 3 whoever is admitted is the line's first.
abbrev pub HandedOn : Type 0
HandedOn =
    OfFresh (λ b.
    (cs : List Call) (p m : ℕ) (ms : List Move)
    → let s = state images b (begin_release p ∷ cs) in
    let x = past s m ms in
    Premise images b size (x.calls ++ begin_release p ∷ cs)
    → ((table images b cs).private p).stage ≡ 13 → 2 ≤ length (course (transcript images b cs)).line → GoOn ms
    → 6 * (read s).n ≤ length x.served + 1
    → Admits (transcript images s x.calls))

-- k of the same
unfoldable pub times : {A : Type 0} → ℕ → A → List A
times zero x = []
times (suc k) x = x ∷ times k x

-- The least such number, where n is 2: module 1 is inside and 2 waits at stage 12. After the begin of 1's release ten turns are accepted and admit
-- nobody; the eleventh admits 2.
unfoldable pub waited : List Call
waited = begin_release 1 ∷ times 8 (step 2) ++ begin_acquisition 2 5 ∷ times 4 (step 1) ++ begin_acquisition 1 10 ∷ []

abbrev pub Reached : Type 0
Reached =
    let s = state images (image (set_up 2) (times 300 0)) waited in
    (length (past s 1 (times 10 turn)).served ≡ 10)
    × ((read (image_after s 1 (times 10 turn))).log ≡ 1 ∷ [])
    × ((read (image_after s 1 (times 11 turn))).log ≡ 1 ∷ 2 ∷ [])
