-- Which images of edition 1 are sound. Document 01, "The image": "An image is sound when ..". The rules on what the bytes mean, once they are read
-- into a table, are `sound_table`'s.
use Rattle.std.specs.Prelude.{ℕ, ◌+◌, Bool, ◌&&◌, List, eqb, leb, length, take, drop}
use Rattle.stage.specs.Calls.{capacity}
use Rattle.stage.specs.Sound.{every, each, sound_table}
use Rattle.layout.specs.Layout.{byte, two, four, length_for, distance_for, trailer_at, log_at, record_at, modules, held, read}

-- "the buffer holds a trailer and all it points back to; edition, n (1 to 64), zeros and distance are right"
unfoldable pub sound_trailer : List ℕ → Bool
sound_trailer b =
    leb 12 (length b)
    && eqb (byte b (trailer_at b + 1)) 1
    && eqb (two b (trailer_at b + 6)) 0
    && eqb (four b (trailer_at b + 8)) (distance_for (modules b))
    && leb (length_for (modules b)) (length b)

-- the zeros of a record
unfoldable pub sound_zeros : List ℕ → ℕ → Bool
sound_zeros b at = eqb (byte b (at + 5)) 0 && eqb (byte b (at + 15)) 0

-- "log length is 0 to 256, its entries are 1 to n and the rest are 0": its length and the rest; `sound_table` has the entries
unfoldable pub sound_log : List ℕ → Bool
sound_log b = leb (held b) capacity && each (eqb 0) (drop (held b) (take capacity (drop (log_at b) b)))

unfoldable pub sound : List ℕ → Bool
sound b =
    sound_trailer b
    && every (modules b) (λ p. sound_zeros b (record_at b p))
    && sound_log b
    && sound_table (read b)
