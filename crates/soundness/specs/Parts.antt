-- What the private functions of `sound` ask, each in the words that its own contract needs. The contract of `sound` cites none of this: that these
-- parts come to `SoundImage.sound` is proved, and no reader has to believe it.
use Rattle.std.specs.Prelude.{ℕ, zero, suc, ◌-◌, ◌*◌, Bool, true, ◌&&◌, List, [], ◌∷◌, eqb, leb, length, take, drop, get_or}
use Rattle.std.specs.List.{list_all}
use Rattle.std.specs.Simd.{first_chunks}
use Rattle.stage.specs.Calls.{within}
use Rattle.stage.specs.Rows.{last}
use Rattle.stage.specs.Sound.{sound_private, sound_shared}
use Rattle.layout.specs.Layout.{byte, two, four, distance_for, private_at, shared_at}
use Rattle.soundness.specs.SoundImage.{sound_zeros}

-- a trailer
unfoldable pub trailer_right : List ℕ → ℕ → Bool
trailer_right t n =
    eqb (byte t 1) 1 && eqb (two t 6) 0 && eqb (four t 8) (distance_for n) && leb 1 n && leb (byte t 0) n

-- the log's entries and the rest
unfoldable pub log_right : List ℕ → ℕ → ℕ → Bool
log_right log n held = list_all (within 1 n) (take held log) && list_all (within 0 0) (drop held log)

-- a record
unfoldable pub record_right : ℕ → List ℕ → Bool
record_right n r = sound_zeros r 0 && sound_private n (private_at r 0) && sound_shared n (shared_at r 0)

-- how many records and log entries there are, the log and the records, which end where what is above the log does
unfoldable pub content_right : List ℕ → List ℕ → ℕ → ℕ → Bool
content_right above log n held =
    leb n 64 && leb held 256 && leb (16 * n) (length above) && (log_right log n held && list_all (record_right n) (first_chunks 16 n (drop (length above - 16 * n) above)))

-- f holds of 0 to k - 1
unfoldable pub below : ℕ → (ℕ → Bool) → Bool
below zero f = true
below (suc k) f = below k f && f k

-- each byte of a record lies between the numbers that two rows have for it
unfoldable pub lanes_right : List ℕ → List ℕ → List ℕ → Bool
lanes_right r least greatest = below 16 (λ k. within (get_or least k 0) (get_or greatest k 0) (byte r k))

-- A row of greatests, by own priority's; and the rows, by a stage's row.
abbrev pub greatest_row : ℕ → ℕ → List ℕ
greatest_row own n = last ∷ own ∷ n ∷ n ∷ 1 ∷ 0 ∷ 255 ∷ 255 ∷ n ∷ 1 ∷ 255 ∷ 255 ∷ 255 ∷ 1 ∷ n ∷ 0 ∷ []

abbrev pub greatest_rows : ℕ → List (List ℕ)
greatest_rows n = greatest_row 0 n ∷ greatest_row 254 n ∷ greatest_row 254 n ∷ greatest_row 254 n ∷ greatest_row 254 n ∷ []
