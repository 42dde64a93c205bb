-- A fresh image, written record by record, then its log and its trailer; and what set-up says.
-- Assumes nothing.
use mathlib.Core.Path.{◌≡◌, refl, sym, ◌∙◌, ap, ap₂}
use mathlib.Core.Bool.{true, false, not}
use mathlib.Core.List.{List, [], ◌∷◌, ◌++◌, append-nil}
use Prim.Native.Nat.{ℕ, suc, ◌+◌, ◌-◌, ◌*◌, ◌/◌, ◌%◌, ◌≤◌, ◌<◌}
use native.Mathlib.Numerals.{add-one}
use native.Mathlib.Omega.{arith}
use borrow.Author.Tests.{le-leb, lt-leb}
use borrow.Rule.Slice.PartMut.{put_mid}
use lib.ListN.{length, take, replicate, length-append, drop_of_length-le}
use lib.Seq.{paste, take_all}
use Rattle.std.specs.Int.{w16, w32, to_be_bytes}
use Rattle.stage.specs.Answers.{answer_of}
use Rattle.stage.specs.Calls.{set_up, within, capacity, refusing, refusals, answered, after}
use Rattle.stage.specs.Table.{Table, idle, untouched, fresh_table}
use Rattle.stage.specs.declared.Event.TheVariants.{Done}
use Rattle.layout.specs.Layout.{length_for, distance_for, record_of, records_of, log_of, trailer_of, write, put}
use Rattle.layout.proofs.Changes.{length_record, length_records, length_log}
use Rattle.image.specs.Call.{fits, refused, Does}
use Rattle.image.specs.Inside.{given}
use Rattle.whole.proofs.Copies.{then_behind}
use Rattle.image.proofs.Refusals.{in_range, refuses, accepts}
use Rattle.stage.specs.declared.Refusal.TheVariants.{Unsound, WrongNumberOfModules, ShortBuffer}
use Rattle.std.specs.Prelude.{Ok, Err}

-- one record more
pub record_more : (d : List ℕ) (first n k : ℕ) {b fresh b' : List ℕ} → first + 16 * (k + 1) ≤ length d → fresh ≡ record_of idle untouched →
    b ≡ paste d first (records_of k (fresh_table n)) (16 * k) → b' ≡ paste b (first + 16 * k) fresh 16 → b' ≡ paste d first (records_of (k + 1) (fresh_table n)) (16 * (k + 1))
unfolding records_of fresh_table
record_more d first n k {b} {fresh} fits fresh_is so_far same =
    let more : 16 * k + 16 ≡ 16 * (k + 1) = omega arith in
    let next : paste d first (records_of (suc k) (fresh_table n)) (16 * k + 16) ≡ paste d first (records_of (k + 1) (fresh_table n)) (16 * (k + 1)) =
    ap₂ (λ (j i : ℕ). paste d first (records_of j (fresh_table n)) i) (sym (add-one k)) more in
    then_behind d (records_of k (fresh_table n)) (record_of idle untouched) first (16 * k) 16 (first + 16 * k) (length_records k (fresh_table n)) (length_record idle untouched) (omega arith) so_far fresh_is refl same
    ∙ next

-- n is a number of two bytes, and the distance one of four
pub trailer_is : (n m : ℕ) {two four : List ℕ} → n ≤ 64 → two ≡ to_be_bytes w16 n → m ≡ distance_for n → four ≡ to_be_bytes w32 m →
    put_mid 8 4 (put_mid 2 2 (0 ∷ 1 ∷ replicate 10 0) two) four ≡ trailer_of (fresh_table n)
unfolding trailer_of fresh_table
trailer_is n m h two_is m_is four_is =
    let k : ℕ = distance_for n in
    let high : n / 256 % 256 ≡ n / 256 = omega arith in
    let first : m / 16777216 % 256 ≡ k / 65536 / 256 = omega arith in
    let second : m / 65536 % 256 ≡ k / 65536 % 256 = omega arith in
    let third : m / 256 % 256 ≡ k % 65536 / 256 = omega arith in
    let fourth : m % 256 ≡ k % 65536 % 256 = omega arith in
    (λ i. put_mid 8 4 (put_mid 2 2 (0 ∷ 1 ∷ replicate 10 0) (two_is i)) (four_is i)) ∙ simp (high, first, second, third, fourth)

-- the three parts one behind the other
pub fresh_put : (b : List ℕ) (n : ℕ) {b₁ b₂ b₃ log trailer : List ℕ} → length_for n ≤ length b → b₁ ≡ paste b (length b - length_for n) (records_of n (fresh_table n)) (16 * n) →
    log ≡ log_of [] → b₂ ≡ paste b₁ (length b - 268) log capacity → trailer ≡ trailer_of (fresh_table n) → b₃ ≡ paste b₂ (length b - 12) trailer 12 → b₃ ≡ put (fresh_table n) b
unfolding put write trailer_of fresh_table
fresh_put b n room first log_is second rest_is third =
    let t : Table = fresh_table n in
    let at : ℕ = length b - length_for n in
    let records : List ℕ = records_of n t in
    let log_long : length (log_of []) ≡ capacity = length_log [] (omega arith) in
    let long : length (records ++ log_of []) ≡ 16 * n + capacity = omega (arith, length-append records (log_of []), length_records n t, log_long) in
    let whole_long : length (records ++ log_of [] ++ trailer_of t) ≡ 16 * n + capacity + 12 = omega (arith, length-append (records ++ log_of []) (trailer_of t), long) in
    let two = then_behind b records (log_of []) at (16 * n) capacity (length b - 268) (length_records n t) log_long (omega arith) first log_is (omega arith) second in
    let three = then_behind b (records ++ log_of []) (trailer_of t) at (16 * n + capacity) 12 (length b - 12) long refl (omega arith) two rest_is (omega arith) third in
    three
    ∙ ap₂ (λ (x y : List ℕ). take at b ++ x ++ y) (take_all (16 * n + capacity + 12) (records ++ log_of [] ++ trailer_of t) (omega (arith, whole_long)))
    (drop_of_length-le b {i = at + (16 * n + capacity + 12)} (omega arith))
    ∙ append-nil (take at b ++ (records ++ log_of [] ++ trailer_of t))

-- what set-up asks
asks : (b : List ℕ) (n : ℕ) → refused (set_up n) b ≡ (false, Unsound) ∷ (not (within 1 64 n), WrongNumberOfModules) ∷ (not (fits b n), ShortBuffer) ∷ []
unfolding refused refusals
asks b n = refl

module _ (b : List ℕ) (n : ℕ) where
  pub no_number : not (within 1 64 n) ≡ true → Does (set_up n) b (Err WrongNumberOfModules) b
  unfolding given refusing
  no_number outside = refuses (set_up n) b WrongNumberOfModules (ap given (asks b n) ∙ simp outside)

  module _ (least : 1 ≤ n) (most : n ≤ 64) where
    pub no_room : length b < length_for n → Does (set_up n) b (Err ShortBuffer) b
    unfolding given refusing
    no_room h = refuses (set_up n) b ShortBuffer (ap given (asks b n) ∙ simp (in_range 1 64 n least most, lt-leb (length_for n) (length b) h))

    pub sets_up : {b' : List ℕ} → length_for n ≤ length b → b' ≡ put (fresh_table n) b → Does (set_up n) b (Ok (answer_of Done)) b'
    unfolding given refusing answered after
    sets_up h put_is = accepts (set_up n) b (ap given (asks b n) ∙ simp (in_range 1 64 n least most, le-leb (length_for n) (length b) h)) refl put_is
