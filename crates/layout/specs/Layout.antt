-- Where everything lies in an image of edition 1: bytes to table, and table to bytes. Document 01, "The image".
--
-- "Owner's bytes may come first and never change. Then n records of 16 bytes, then 256 log bytes, then a trailer of 12 bytes at the very end of
-- the buffer. Numbers are big-endian."
use Rattle.std.specs.Prelude.{ℕ, zero, suc, ◌+◌, ◌-◌, ◌*◌, ◌/◌, ◌%◌, cond, List, [], ◌∷◌, ◌++◌, length, get_or, take, drop, replicate}
use Rattle.link.specs.declared.Link.{Link}
use Rattle.stage.specs.Calls.{within, capacity}
use Rattle.stage.specs.Table.{Table, idle, untouched}
use Rattle.stage.specs.declared.Private.{Private}
use Rattle.stage.specs.declared.Shared.{Shared}

-- the byte at a place, and the big-endian number of two and of four bytes there
abbrev pub byte : List ℕ → ℕ → ℕ
byte b at = get_or b at 0

unfoldable pub two : List ℕ → ℕ → ℕ
two b at = 256 * byte b at + byte b (at + 1)

unfoldable pub four : List ℕ → ℕ → ℕ
four b at = 65536 * two b at + two b (at + 2)

-- how long an image of k modules is; and the distance from its trailer's first byte back to record 1
abbrev pub length_for : ℕ → ℕ
length_for k = 16 * k + 268

abbrev pub distance_for : ℕ → ℕ
distance_for k = 16 * k + 256

-- the places of the trailer's first byte, of the log's, of record 1's and of record p's, by n as the trailer has it
abbrev pub trailer_at : List ℕ → ℕ
trailer_at b = length b - 12

abbrev pub modules : List ℕ → ℕ
modules b = two b (trailer_at b + 2)

abbrev pub log_at : List ℕ → ℕ
log_at b = length b - 268

abbrev pub first_at : List ℕ → ℕ
first_at b = length b - length_for (modules b)

abbrev pub record_at : List ℕ → ℕ → ℕ
record_at b p = first_at b + 16 * (p - 1)

-- "Record: 0 stage, 1 own priority, 2 prev, 3 w pointer, 4 w mark, 5 zero, 6-7 w count, 8 link pointer, 9 link mark (1 closed), 10-11 link count,
-- 12 record priority, 13 Locked, 14 s, 15 zero."
unfoldable pub private_at : List ℕ → ℕ → Private
private_at b at =
    record {
      stage = byte b at;
      own = byte b (at + 1);
      prev = byte b (at + 2);
      w = record { pointer = byte b (at + 3); mark = byte b (at + 4); count = two b (at + 6) };
      s = byte b (at + 14);
    }

unfoldable pub shared_at : List ℕ → ℕ → Shared
shared_at b at =
    record {
      link = record { pointer = byte b (at + 8); mark = byte b (at + 9); count = two b (at + 10) };
      priority = byte b (at + 12);
      locked = byte b (at + 13);
    }

-- "Trailer: 0 lock word, 1 edition (1), 2-3 n, 4-5 log length, 6-7 zero, 8-11 distance from the trailer's first byte back to record 1, which is 16n + 256."
unfoldable pub held : List ℕ → ℕ
held b = two b (trailer_at b + 4)

-- the table that an image holds
unfoldable pub read : List ℕ → Table
read b =
    record {
      n = modules b;
      private = λ p. cond (within 1 (modules b) p) (private_at b (record_at b p)) idle;
      shared = λ p. cond (within 1 (modules b) p) (shared_at b (record_at b p)) untouched;
      lock = byte b (trailer_at b);
      log = take (held b) (drop (log_at b) b);
    }

-- a number in two and in four bytes, the greatest first
abbrev pub two_of : ℕ → List ℕ
two_of k = k / 256 ∷ k % 256 ∷ []

abbrev pub four_of : ℕ → List ℕ
four_of k = two_of (k / 65536) ++ two_of (k % 65536)

unfoldable pub link_of : Link → List ℕ
link_of l = l.pointer ∷ l.mark ∷ two_of l.count

unfoldable pub record_of : Private → Shared → List ℕ
record_of me its =
    me.stage ∷ me.own ∷ me.prev ∷ me.w.pointer ∷ me.w.mark ∷ 0 ∷ two_of me.w.count
    ++ its.link.pointer ∷ its.link.mark ∷ two_of its.link.count
    ++ its.priority ∷ its.locked ∷ me.s ∷ 0 ∷ []

unfoldable pub records_of : ℕ → Table → List ℕ
records_of zero t = []
records_of (suc k) t = records_of k t ++ record_of (t.private (suc k)) (t.shared (suc k))

unfoldable pub log_of : List ℕ → List ℕ
log_of log = log ++ replicate (capacity - length log) 0

unfoldable pub trailer_of : Table → List ℕ
trailer_of t = t.lock ∷ 1 ∷ two_of t.n ++ two_of (length t.log) ++ 0 ∷ 0 ∷ four_of (distance_for t.n)

-- the image of a table
unfoldable pub write : Table → List ℕ
write t = records_of t.n t ++ log_of t.log ++ trailer_of t

-- a buffer with the image of a table at its end: "Owner's bytes may come first and never change."
unfoldable pub put : Table → List ℕ → List ℕ
put t b = take (length b - length_for t.n) b ++ write t
