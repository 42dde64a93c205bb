-- Reading what was written: the image of a table that fits holds that table.
-- Assumes nothing.
use mathlib.Core.Path.{◌≡◌, sym, ◌∙◌, ap, ap₂, fun_ext}
use mathlib.Core.Bool.{false, cond}
use mathlib.Core.List.{List, ◌++◌, append_assoc}
use Prim.Native.Nat.{ℕ, zero, suc, ◌+◌, ◌-◌, ◌*◌, ◌/◌, ◌%◌, ◌≤◌, ◌<◌}
use native.Mathlib.Nat.{add-zero, add_assoc, div-add-mod}
use native.Mathlib.Decide.{ℕ_discrete}
use native.Mathlib.Omega.{arith}
use borrow.Author.Tests.{leb-true}
use lib.Dec.{leb, lit<}
use lib.ListN.{length, get_or, take, drop, replicate, length-append, get_or-append}
use lib.Seq.{get_or-append-add, take_at, drop_at, take-append_seam, drop-append_seam}
use Rattle.laws.proofs.Cases.{choose, both_hold}
use Rattle.stage.specs.Calls.{within, capacity}
use Rattle.stage.specs.Table.{Table, idle, untouched}
use Rattle.layout.specs.Layout.{byte, two, four, length_for, distance_for, trailer_at, modules, log_at, record_at, private_at, shared_at, held, read, record_of, records_of, log_of, trailer_of, write, put}
use Rattle.layout.proofs.Rewritten.{Written}
use Rattle.layout.proofs.Changes.{record_in, length_records, length_log, Room, place_in, before, length_before, log_place, trailer_place}

-- a table that an image can hold: outside 1 to n it is the one that is read there
pub record Held (t : Table) : Type 0 where
  pub few : length t.log ≤ capacity
  pub private_outside : (p : ℕ) → within 1 t.n p ≡ false → t.private p ≡ idle
  pub shared_outside : (p : ℕ) → within 1 t.n p ≡ false → t.shared p ≡ untouched

-- a byte of the records is a byte of one record
record_byte : (k : ℕ) (t : Table) (p i : ℕ) → 1 ≤ p → p ≤ k → i < 16 → get_or (records_of k t) (16 * (p - 1) + i) 0 ≡ get_or (record_in t p) i 0
unfolding records_of
record_byte zero t p i least most h = absurd (omega arith)
record_byte (suc k) t p i least most h =
    elim (ℕ_discrete p (suc k)) [ yes e ↦ last e | no ne ↦ earlier ne (record_byte k t p i least (omega arith) h) ]
  where
    last : p ≡ suc k → get_or (records_of k t ++ record_in t (suc k)) (16 * (p - 1) + i) 0 ≡ get_or (record_in t p) i 0
    last e =
        let place : 16 * (p - 1) + i ≡ length (records_of k t) + i = omega (arith, length_records k t) in
        ap (λ (j : ℕ). get_or (records_of k t ++ record_in t (suc k)) j 0) place
        ∙ get_or-append-add (records_of k t) (record_in t (suc k)) i 0
        ∙ ap (λ (j : ℕ). get_or (record_in t j) i 0) (sym e)

    earlier : (p ≡ suc k → ⊥) → get_or (records_of k t) (16 * (p - 1) + i) 0 ≡ get_or (record_in t p) i 0 → get_or (records_of k t ++ record_in t (suc k)) (16 * (p - 1) + i) 0 ≡ get_or (record_in t p) i 0
    earlier ne there = get_or-append (records_of k t) (record_in t (suc k)) 0 (16 * (p - 1) + i) (omega (arith, length_records k t)) ∙ there

module _ (t : Table) (b : List ℕ) (room : Room t b) where
  abbrev image : List ℕ
  image = put t b

  pub length_put : length (put t b) ≡ length b
  unfolding put write trailer_of
  length_put =
      let records : List ℕ = records_of t.n t in
      let log : List ℕ = log_of t.log in
      omega (arith, length-append (before t b) (records ++ log ++ trailer_of t), length-append (records ++ log) (trailer_of t), length-append records log, length_before t b room, length_records t.n t, length_log t.log room.held)

  -- a byte of the trailer, and a number of two bytes there
  trailer_byte : (k : ℕ) → byte image (trailer_at image + k) ≡ get_or (trailer_of t) k 0
  unfolding put write
  trailer_byte k =
      let records : List ℕ = records_of t.n t in
      let log : List ℕ = log_of t.log in
      let place : trailer_at image + k ≡ length (before t b) + (length (records ++ log) + k) = omega (arith, length_put, trailer_place t b room) in
      ap (λ (i : ℕ). byte image i) place
      ∙ get_or-append-add (before t b) (records ++ log ++ trailer_of t) (length (records ++ log) + k) 0
      ∙ get_or-append-add (records ++ log) (trailer_of t) k 0

  trailer_two : (k : ℕ) → two image (trailer_at image + k) ≡ 256 * get_or (trailer_of t) k 0 + get_or (trailer_of t) (k + 1) 0
  unfolding two
  trailer_two k = ap₂ (λ (x y : ℕ). 256 * x + y) (trailer_byte k) (ap (λ (i : ℕ). byte image i) (add_assoc (trailer_at image) k 1) ∙ trailer_byte (k + 1))

  modules_back : modules image ≡ t.n
  unfolding trailer_of
  modules_back = trailer_two 2 ∙ div-add-mod t.n 256

  held_back : held image ≡ length t.log
  unfolding trailer_of held
  held_back = trailer_two 4 ∙ div-add-mod (length t.log) 256

  distance_back : four image (trailer_at image + 8) ≡ distance_for (modules image)
  unfolding four trailer_of
  distance_back =
      let d : ℕ = distance_for t.n in
      ap₂ (λ (x y : ℕ). 65536 * x + y) (trailer_two 8 ∙ div-add-mod (d / 65536) 256)
      (ap (λ (i : ℕ). two image i) (add_assoc (trailer_at image) 8 2) ∙ trailer_two 10 ∙ div-add-mod (d % 65536) 256)
      ∙ div-add-mod d 65536
      ∙ ap distance_for (sym modules_back)

  lock_back : byte image (trailer_at image) ≡ t.lock
  unfolding trailer_of
  lock_back = ap (λ (i : ℕ). byte image i) (sym (add-zero (trailer_at image))) ∙ trailer_byte 0

  -- all from the log on
  from_log : drop (log_at image) image ≡ log_of t.log ++ trailer_of t
  unfolding put write
  from_log =
      let records : List ℕ = records_of t.n t in
      let rest : List ℕ = log_of t.log ++ trailer_of t in
      ap (λ (l : List ℕ). drop (log_at image) (before t b ++ l)) (append_assoc records (log_of t.log) (trailer_of t))
      ∙ ap (λ (l : List ℕ). drop (log_at image) l) (sym (append_assoc (before t b) records rest))
      ∙ drop_at (before t b ++ records) rest (log_at image) (omega (arith, length-append (before t b) records, length_put, log_place t b room))

  log_back : take (held image) (drop (log_at image) image) ≡ t.log
  unfolding log_of
  log_back =
      ap₂ take held_back (from_log ∙ append_assoc t.log _ (trailer_of t)) ∙ take-append_seam t.log _

  rest_back : drop (held image) (take capacity (drop (log_at image) image)) ≡ replicate (capacity - held image) 0
  unfolding log_of
  rest_back =
      let zeros : List ℕ = replicate (capacity - length t.log) 0 in
      ap₂ (λ (k : ℕ) (l : List ℕ). drop k (take capacity l)) held_back from_log
      ∙ ap (λ (l : List ℕ). drop (length t.log) l) (take_at (log_of t.log) (trailer_of t) capacity (length_log t.log room.held))
      ∙ drop-append_seam t.log zeros
      ∙ ap (λ (k : ℕ). replicate (capacity - k) 0) (sym held_back)

  -- a module's parts
  module _ (p : ℕ) (least : 1 ≤ p) (most : p ≤ t.n) where
    place_back : record_at image p ≡ place_in t b p
    place_back = omega (arith, length_put, modules_back)

    here : (k : ℕ) → k < 16 → byte image (record_at image p + k) ≡ get_or (record_in t p) k 0
    unfolding put write
    here k h =
        let records : List ℕ = records_of t.n t in
        let log : List ℕ = log_of t.log in
        let i : ℕ = 16 * (p - 1) + k in
        let place : record_at image p + k ≡ length (before t b) + i = omega (arith, place_back, length_before t b room) in
        let inside : i < length records = omega (arith, length_records t.n t) in
        ap (λ (j : ℕ). byte image j) place
        ∙ get_or-append-add (before t b) (records ++ log ++ trailer_of t) i 0
        ∙ get_or-append (records ++ log) (trailer_of t) 0 i (omega (arith, length-append records log))
        ∙ get_or-append records log 0 i inside
        ∙ record_byte t.n t p k least most h

    two_here : (k : ℕ) → k + 1 < 16 → two image (record_at image p + k) ≡ 256 * get_or (record_in t p) k 0 + get_or (record_in t p) (k + 1) 0
    unfolding two
    two_here k h = ap₂ (λ (x y : ℕ). 256 * x + y) (here k (omega arith)) (ap (λ (i : ℕ). byte image i) (add_assoc (record_at image p) k 1) ∙ here (k + 1) h)

    private_back : private_at image (record_at image p) ≡ t.private p
    unfolding private_at record_of
    private_back =
        λ i. record {
          stage = (ap (λ (j : ℕ). byte image j) (sym (add-zero (record_at image p))) ∙ here 0 (lit< tt)) i;
          own = here 1 (lit< tt) i;
          prev = here 2 (lit< tt) i;
          w = record { pointer = here 3 (lit< tt) i; mark = here 4 (lit< tt) i; count = (two_here 6 (lit< tt) ∙ div-add-mod (t.private p).w.count 256) i };
          s = here 14 (lit< tt) i;
        }

    shared_back : shared_at image (record_at image p) ≡ t.shared p
    unfolding shared_at record_of
    shared_back =
        λ i. record {
          link = record { pointer = here 8 (lit< tt) i; mark = here 9 (lit< tt) i; count = (two_here 10 (lit< tt) ∙ div-add-mod (t.shared p).link.count 256) i };
          priority = here 12 (lit< tt) i;
          locked = here 13 (lit< tt) i;
        }

-- and it is written right
pub put_written : (t : Table) (b : List ℕ) → Room t b → Written (put t b)
unfolding trailer_of record_of
put_written t b room =
    record {
      fits = omega (arith, length_put t b room, modules_back t b room, room.fits);
      edition = trailer_byte t b room 1;
      zeros = trailer_two t b room 6;
      distance = distance_back t b room;
      record_zeros = λ p least most. (here t b room p least (omega (arith, modules_back t b room)) 5 (lit< tt), here t b room p least (omega (arith, modules_back t b room)) 15 (lit< tt));
      held_fits = omega (arith, held_back t b room, room.held);
      rest = rest_back t b room;
    }

pub read_put : (t : Table) (b : List ℕ) → Held t → length_for t.n ≤ length b → read (put t b) ≡ t
unfolding read
read_put t b is fits =
    λ i. record {
      n = modules_back t b room i;
      private = fun_ext (each idle _ t.private (private_back t b room) is.private_outside) i;
      shared = fun_ext (each untouched _ t.shared (shared_back t b room) is.shared_outside) i;
      lock = lock_back t b room i;
      log = log_back t b room i;
    }
  where
    room : Room t b
    room = record { fits = fits; held = is.few }

    -- what is read of each module, and outside 1 to n
    each : {A : Type 0} (other : A) (f g : ℕ → A) → ((p : ℕ) → 1 ≤ p → p ≤ t.n → f p ≡ g p) → ((p : ℕ) → within 1 t.n p ≡ false → g p ≡ other) → (p : ℕ) → cond (within 1 (modules (put t b)) p) (f p) other ≡ g p
    each {A} other f g here outside p =
        ap (λ (n : ℕ). cond (within 1 n p) (f p) other) (modules_back t b room)
        ∙ choose (λ (x : A). x ≡ g p) (within 1 t.n p)
        (λ e. let h = both_hold (leb 1 p) (leb p t.n) e in here p (leb-true 1 p h.0) (leb-true p t.n h.1))
        (λ e. sym (outside p e))
