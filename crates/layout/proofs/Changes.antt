-- A table with ONE part changed, written over an image: the old bytes with some bytes stored.
-- Assumes nothing.
use mathlib.Core.Path.{◌≡◌, refl, sym, ◌∙◌, ap, ap₂, subst}
use mathlib.Core.List.{List, [], ◌∷◌, ◌++◌}
use Prim.Native.Nat.{ℕ, zero, suc, ◌+◌, ◌-◌, ◌*◌, ◌/◌, ◌%◌, ◌≤◌, ◌<◌}
use native.Mathlib.Nat.{add-zero, add_assoc}
use native.Mathlib.Decide.{ℕ_discrete}
use native.Mathlib.Omega.{arith}
use lib.Dec.{T}
use lib.ListN.{length, set, take, replicate, length-append, length-replicate}
use lib.Seq.{length-take-le, take_all, append_snoc, set-append_seam, paste}
use Rattle.inplace.specs.InPlace.{link_at, link_put}
use Rattle.link.specs.declared.Link.{Link}
use Rattle.inplace.specs.declared.Place.{Place}
use Rattle.stage.specs.Calls.{capacity}
use Rattle.stage.specs.Rows.{goes, with_w, with_link}
use Rattle.stage.specs.Table.{Table, upd}
use Rattle.stage.specs.declared.Private.{Private}
use Rattle.stage.specs.declared.Shared.{Shared}
use Rattle.stage.proofs.Update.{upd_same, upd_other}
use Rattle.layout.specs.Layout.{length_for, byte, two, private_at, shared_at, record_of, records_of, log_of, trailer_of, write, put}
use Rattle.layout.proofs.Stores.{Offsets, puts, under, puts_left, puts_right, puts_first, puts_second, puts_third, paste_second}

-- a table with one part changed
abbrev pub with_private : Table → ℕ → Private → Table
with_private t p me = record { n = t.n; private = upd t.private p me; shared = t.shared; lock = t.lock; log = t.log }

abbrev pub with_shared : Table → ℕ → Shared → Table
with_shared t p its = record { n = t.n; private = t.private; shared = upd t.shared p its; lock = t.lock; log = t.log }

abbrev pub with_lock : Table → ℕ → Table
with_lock t k = record { n = t.n; private = t.private; shared = t.shared; lock = k; log = t.log }

abbrev pub with_log : Table → List ℕ → Table
with_log t log = record { n = t.n; private = t.private; shared = t.shared; lock = t.lock; log = log }

-- the bytes of a private and of a shared part, each with its place in a record
abbrev pub private_bytes : Private → Offsets
private_bytes me =
    (0, me.stage)
    ∷ (1, me.own)
    ∷ (2, me.prev)
    ∷ (3, me.w.pointer)
    ∷ (4, me.w.mark)
    ∷ (6, me.w.count / 256)
    ∷ (7, me.w.count % 256)
    ∷ (14, me.s)
    ∷ []

abbrev pub shared_bytes : Shared → Offsets
shared_bytes its =
    (8, its.link.pointer)
    ∷ (9, its.link.mark)
    ∷ (10, its.link.count / 256)
    ∷ (11, its.link.count % 256)
    ∷ (12, its.priority)
    ∷ (13, its.locked)
    ∷ []

-- a link of a record in place: by the places in the record of its pointer and of its count
abbrev pub link_in : ℕ → ℕ → ℕ → Place
link_in pointer count at = record { pointer = at + pointer; count = at + count }

abbrev pub w_place : ℕ → Place
w_place = link_in 3 6

abbrev pub link_place : ℕ → Place
link_place = link_in 8 10

abbrev link_bytes : ℕ → ℕ → Link → Offsets → Offsets
link_bytes pointer count l es = (pointer, l.pointer) ∷ (pointer + 1, l.mark) ∷ (count, l.count / 256) ∷ (count + 1, l.count % 256) ∷ es

link_stored : (pointer count : ℕ) (b : List ℕ) (at : ℕ) (l : Link) (es : Offsets) → puts b at (link_bytes pointer count l es) ≡ puts (link_put b (link_in pointer count at) l) at es
unfolding link_put
link_stored pointer count b at l es =
    ap₂ (λ (i j : ℕ). puts (set (set (set (set b (at + pointer) l.pointer) i l.mark) (at + count) (l.count / 256)) j (l.count % 256)) at es)
    (sym (add_assoc at pointer 1)) (sym (add_assoc at count 1))

link_there : (pointer count : ℕ) (b : List ℕ) (at : ℕ)
    → link_at b (link_in pointer count at) ≡ record { pointer = byte b (at + pointer); mark = byte b (at + (pointer + 1)); count = two b (at + count) }
unfolding link_at two
link_there pointer count b at = ap (λ (i : ℕ). record { pointer = byte b (at + pointer); mark = byte b i; count = two b (at + count) }) (add_assoc at pointer 1)

pub w_there : (b : List ℕ) (at : ℕ) → link_at b (w_place at) ≡ (private_at b at).w
unfolding private_at
w_there b at = link_there 3 6 b at

pub its_there : (b : List ℕ) (at : ℕ) → link_at b (link_place at) ≡ (shared_at b at).link
unfolding shared_at
its_there b at = link_there 8 10 b at

-- the record of module p
abbrev pub record_in : Table → ℕ → List ℕ
record_in t p = record_of (t.private p) (t.shared p)

pub length_record : (me : Private) (its : Shared) → length (record_of me its) ≡ 16
unfolding record_of
length_record me its = refl

pub length_records : (k : ℕ) (t : Table) → length (records_of k t) ≡ 16 * k
unfolding records_of
length_records zero t = refl
length_records (suc k) t =
    omega (arith, length-append (records_of k t) (record_in t (suc k)), length_records k t, length_record (t.private (suc k)) (t.shared (suc k)))

-- the records of 1 to k hang on those modules alone
same_records : (k : ℕ) (t t' : Table) → ((q : ℕ) → q ≤ k → record_in t' q ≡ record_in t q) → records_of k t' ≡ records_of k t
unfolding records_of
same_records zero t t' same = refl
same_records (suc k) t t' same = ap₂ (λ (x y : List ℕ). x ++ y) (same_records k t t' (λ q h. same q (omega arith))) (same (suc k) (omega arith))

-- t' is t but for the record of p, which has some bytes stored
record Stored (t t' : Table) (p : ℕ) (es : Offsets) : Type 0 where
  others : (q : ℕ) → (q ≡ p → ⊥) → record_in t' q ≡ record_in t q
  here : record_in t' p ≡ puts (record_in t p) 0 es
  inside : T (under 16 es)

-- p's record begins at `at`
stored_records : (k : ℕ) (t t' : Table) (p at : ℕ) (es : Offsets) → Stored t t' p es → at + 16 ≡ 16 * p → p ≤ k → records_of k t' ≡ puts (records_of k t) at es
unfolding records_of
stored_records zero t t' p at es s place high = absurd (omega arith)
stored_records (suc k) t t' p at es s place high =
    elim (ℕ_discrete p (suc k)) [ yes e ↦ last e | no ne ↦ earlier ne (stored_records k t t' p at es s place (omega arith)) ]
  where
    last : p ≡ suc k → records_of k t' ++ record_in t' (suc k) ≡ puts (records_of k t ++ record_in t (suc k)) at es
    last e =
        ap₂ (λ (x y : List ℕ). x ++ y) (same_records k t t' (λ q h. s.others q (omega arith))) (subst (λ (j : ℕ). record_in t' j ≡ puts (record_in t j) 0 es) e s.here)
        ∙ sym (puts_right (records_of k t) (record_in t (suc k)) 0 es)
        ∙ ap (λ (j : ℕ). puts (records_of k t ++ record_in t (suc k)) j es) (omega (arith, length_records k t))

    earlier : (p ≡ suc k → ⊥) → records_of k t' ≡ puts (records_of k t) at es → records_of k t' ++ record_in t' (suc k) ≡ puts (records_of k t ++ record_in t (suc k)) at es
    earlier ne before =
        ap₂ (λ (x y : List ℕ). x ++ y) before (s.others (suc k) (omega arith))
        ∙ sym (puts_left 16 (records_of k t) (record_in t (suc k)) at es s.inside (omega (arith, length_records k t)))

-- a buffer has room for the image of a table
pub record Fits (n : ℕ) (log b : List ℕ) : Type 0 where
  pub fits : length_for n ≤ length b
  pub held : length log ≤ capacity

abbrev pub Room : Table → List ℕ → Type 0
Room t b = Fits t.n t.log b

-- where module p's record begins
abbrev pub place_in : Table → List ℕ → ℕ → ℕ
place_in t b p = length b - length_for t.n + 16 * (p - 1)

-- the owner's bytes
abbrev pub before : Table → List ℕ → List ℕ
before t b = take (length b - length_for t.n) b

pub length_before : (t : Table) (b : List ℕ) → Room t b → length (before t b) ≡ length b - length_for t.n
length_before t b room = length-take-le (length b - length_for t.n) b (omega arith)

pub length_log : (log : List ℕ) → length log ≤ capacity → length (log_of log) ≡ capacity
unfolding log_of
length_log log h = omega (arith, length-append log (replicate (capacity - length log) 0), length-replicate {A = ℕ} (capacity - length log) 0)

-- where the log and the trailer begin
pub log_place : (t : Table) (b : List ℕ) → Room t b → length (before t b) + length (records_of t.n t) ≡ length b - 268
log_place t b room = omega (arith, length_before t b room, length_records t.n t)

pub trailer_place : (t : Table) (b : List ℕ) → Room t b → length (before t b) + length (records_of t.n t ++ log_of t.log) ≡ length b - 12
trailer_place t b room = omega (arith, length_before t b room, length_records t.n t, length-append (records_of t.n t) (log_of t.log), length_log t.log room.held)

module _ (t : Table) (b : List ℕ) (room : Room t b) where
  -- some bytes of one record
  record_stored : (f : ℕ → Private) (g : ℕ → Shared) (p : ℕ) (es : Offsets) →
      Stored t (record { n = t.n; private = f; shared = g; lock = t.lock; log = t.log }) p es → 1 ≤ p → p ≤ t.n →
      put (record { n = t.n; private = f; shared = g; lock = t.lock; log = t.log }) b ≡ puts (put t b) (place_in t b p) es
  unfolding put write trailer_of
  record_stored f g p es s low high =
      let t' : Table = record { n = t.n; private = f; shared = g; lock = t.lock; log = t.log } in
      ap (λ (r : List ℕ). before t b ++ (r ++ log_of t.log ++ trailer_of t)) (stored_records t.n t t' p (16 * (p - 1)) es s (omega arith) high)
      ∙ sym (puts_first (before t b) (records_of t.n t) (log_of t.log) (trailer_of t) (16 * (p - 1)) 16 es s.inside (omega (arith, length_records t.n t)))
      ∙ ap (λ (k : ℕ). puts (put t b) (k + 16 * (p - 1)) es) (length_before t b room)

  -- some bytes of a private, and of a shared part
  private_stored : (p : ℕ) (me : Private) (es : Offsets) → record_of me (t.shared p) ≡ puts (record_in t p) 0 es → T (under 16 es) → 1 ≤ p → p ≤ t.n →
      put (with_private t p me) b ≡ puts (put t b) (place_in t b p) es
  private_stored p me es here inside =
      record_stored (upd t.private p me) t.shared p es
      (record {
        others = λ q ne. ap (λ (x : Private). record_of x (t.shared q)) (upd_other t.private p me q ne);
        here = ap (λ (x : Private). record_of x (t.shared p)) (upd_same t.private p me) ∙ here;
        inside = inside;
      })

  shared_stored : (p : ℕ) (its : Shared) (es : Offsets) → record_of (t.private p) its ≡ puts (record_in t p) 0 es → T (under 16 es) → 1 ≤ p → p ≤ t.n →
      put (with_shared t p its) b ≡ puts (put t b) (place_in t b p) es
  shared_stored p its es here inside =
      record_stored t.private (upd t.shared p its) p es
      (record {
        others = λ q ne. ap (record_of (t.private q)) (upd_other t.shared p its q ne);
        here = ap (record_of (t.private p)) (upd_same t.shared p its) ∙ here;
        inside = inside;
      })

  -- all of them
  pub put_private : (p : ℕ) (me : Private) → 1 ≤ p → p ≤ t.n → put (with_private t p me) b ≡ puts (put t b) (place_in t b p) (private_bytes me)
  unfolding record_of
  put_private p me = private_stored p me (private_bytes me) refl tt

  pub put_shared : (p : ℕ) (its : Shared) → 1 ≤ p → p ≤ t.n → put (with_shared t p its) b ≡ puts (put t b) (place_in t b p) (shared_bytes its)
  unfolding record_of
  put_shared p its = shared_stored p its (shared_bytes its) refl tt

  -- the stage; the link; w and then the stage
  pub put_stage : (p k : ℕ) → 1 ≤ p → p ≤ t.n → put (with_private t p (goes k (t.private p))) b ≡ set (put t b) (place_in t b p) k
  unfolding record_of
  put_stage p k low high = private_stored p (goes k (t.private p)) ((0, k) ∷ []) refl tt low high ∙ ap (λ (i : ℕ). set (put t b) i k) (add-zero (place_in t b p))

  pub put_link : (p : ℕ) (l : Link) → 1 ≤ p → p ≤ t.n → put (with_shared t p (with_link l (t.shared p))) b ≡ link_put (put t b) (link_place (place_in t b p)) l
  unfolding record_of
  put_link p l low high = shared_stored p (with_link l (t.shared p)) (link_bytes 8 10 l []) refl tt low high ∙ link_stored 8 10 (put t b) (place_in t b p) l []

  pub put_w : (p k : ℕ) (l : Link) → 1 ≤ p → p ≤ t.n → put (with_private t p (goes k (with_w l (t.private p)))) b ≡ set (link_put (put t b) (w_place (place_in t b p)) l) (place_in t b p) k
  unfolding record_of
  put_w p k l low high =
      let at = place_in t b p in
      private_stored p (goes k (with_w l (t.private p))) (link_bytes 3 6 l ((0, k) ∷ [])) refl tt low high
      ∙ link_stored 3 6 (put t b) at l ((0, k) ∷ [])
      ∙ ap (λ (i : ℕ). set (link_put (put t b) (w_place at) l) i k) (add-zero at)

  -- the lock word
  pub put_lock : (k : ℕ) → put (with_lock t k) b ≡ set (put t b) (length b - 12) k
  unfolding put write trailer_of
  put_lock k =
      ap (λ (r : List ℕ). before t b ++ (r ++ log_of t.log ++ trailer_of (with_lock t k))) (same_records t.n t (with_lock t k) (λ q h. refl))
      ∙ sym (puts_third (before t b) (records_of t.n t) (log_of t.log) (trailer_of t) 0 ((0, k) ∷ []))
      ∙ ap (λ (i : ℕ). set (put t b) i k) (omega (arith, trailer_place t b room))

-- the bytes of the log length, with their places in the trailer
abbrev pub length_bytes : ℕ → Offsets
length_bytes k = (4, k / 256) ∷ (5, k % 256) ∷ []

-- a log with one entry more
logged_one : (log : List ℕ) (k : ℕ) → length log < capacity → log_of (log ++ k ∷ []) ≡ puts (log_of log) (length log) ((0, k) ∷ [])
unfolding log_of
logged_one log k h =
    let rest : List ℕ = replicate (255 - length log) 0 in
    let more : capacity - length (log ++ k ∷ []) ≡ 255 - length log = omega (arith, length-append log (k ∷ [])) in
    let less : suc (255 - length log) ≡ capacity - length log = omega arith in
    ap (λ (j : ℕ). log ++ k ∷ [] ++ replicate j 0) more
    ∙ append_snoc log k rest
    ∙ sym (set-append_seam log 0 rest k)
    ∙ ap₂ (λ (j i : ℕ). set (log ++ replicate j 0) i k) less (sym (add-zero (length log)))

module _ (t : Table) (b : List ℕ) (room : Room t b) where
  -- another log: its bytes, and its length
  put_log : (log : List ℕ) → length log ≤ capacity → put (with_log t log) b ≡ puts (before t b ++ (records_of t.n t ++ log_of log ++ trailer_of t)) (length b - 12) (length_bytes (length log))
  unfolding put write trailer_of
  put_log log h =
      let t' : Table = with_log t log in
      let place : length (before t b) + (length (records_of t.n t ++ log_of log) + 0) ≡ length b - 12 =
      omega (arith, length_before t b room, length_records t.n t, length-append (records_of t.n t) (log_of log), length_log log h) in
      ap (λ (r : List ℕ). before t b ++ (r ++ log_of log ++ trailer_of t')) (same_records t.n t t' (λ q h. refl))
      ∙ sym (puts_third (before t b) (records_of t.n t) (log_of log) (trailer_of t) 0 (length_bytes (length log)))
      ∙ ap (λ (i : ℕ). puts (before t b ++ (records_of t.n t ++ log_of log ++ trailer_of t)) i (length_bytes (length log))) place

  -- one entry more
  pub put_logged : (k : ℕ) → length t.log < capacity →
      put (with_log t (t.log ++ k ∷ [])) b ≡ puts (set (put t b) (length b - 268 + length t.log) k) (length b - 12) (length_bytes (length t.log + 1))
  unfolding put write
  put_logged k h =
      let place : length (before t b) + (length (records_of t.n t) + length t.log) + 0 ≡ length b - 268 + length t.log = omega (arith, log_place t b room) in
      let more : length (t.log ++ k ∷ []) ≡ length t.log + 1 = length-append t.log (k ∷ []) in
      put_log (t.log ++ k ∷ []) (omega (arith, more))
      ∙ ap₂ (λ (l : List ℕ) (j : ℕ). puts l (length b - 12) (length_bytes j))
      (ap (λ (l : List ℕ). before t b ++ (records_of t.n t ++ l ++ trailer_of t)) (logged_one t.log k h)
      ∙ sym (puts_second (before t b) (records_of t.n t) (log_of t.log) (trailer_of t) (length t.log) 1 ((0, k) ∷ []) tt (omega (arith, length_log t.log room.held)))
      ∙ ap (λ (i : ℕ). set (put t b) i k) place)
      more

  -- the log empty
  pub put_taken : put (with_log t []) b ≡ puts (paste (put t b) (length b - 268) (log_of []) capacity) (length b - 12) (length_bytes 0)
  unfolding put write
  put_taken =
      put_log [] (omega arith)
      ∙ ap (λ (l : List ℕ). puts l (length b - 12) (length_bytes 0))
      (ap (λ (l : List ℕ). before t b ++ (records_of t.n t ++ l ++ trailer_of t)) (sym (take_all capacity (log_of []) (omega (arith, length_log [] (omega arith)))))
      ∙ sym (paste_second (before t b) (records_of t.n t) (log_of t.log) (trailer_of t) (log_of []) capacity (length_log t.log room.held))
      ∙ ap (λ (i : ℕ). paste (put t b) i (log_of []) capacity) (log_place t b room))
