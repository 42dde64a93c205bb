-- A link that stays where it lies in bytes, and its swap. Document 02, R-3: "Compare in the image itself; no answer or byte differs."
use Rattle.std.specs.Prelude.{ℕ, ◌+◌, ◌*◌, ◌/◌, ◌%◌, Bool, true, false, cond, ◌&&◌, List, length, nat_le, slice_index, slice_set, Ok, Err}
use Rattle.link.specs.Operations.{swapped, Swapped}
use Rattle.link.specs.declared.Link.{Link}
use Rattle.inplace.specs.declared.Place.{Place}

-- whether a link at this place lies within so many bytes
unfoldable pub lies : Place → ℕ → Bool
lies l k = nat_le (l.pointer + 2) k && nat_le (l.count + 2) k

-- the link that lies there, and the bytes with another one there: its pointer, its mark, and its count, the greater byte first
unfoldable pub link_at : List ℕ → Place → Link
link_at b l =
    record {
      pointer = slice_index b l.pointer;
      mark = slice_index b (l.pointer + 1);
      count = 256 * slice_index b l.count + slice_index b (l.count + 1);
    }

unfoldable pub link_put : List ℕ → Place → Link → List ℕ
link_put b l x =
    slice_set (slice_set (slice_set (slice_set b l.pointer x.pointer) (l.pointer + 1) x.mark) l.count (x.count / 256)) (l.count + 1) (x.count % 256)

-- What a swap says, and the bytes that it leaves. "If not, nothing changes and the link found is handed back": to where the expected one lies.
unfoldable pub left : Swapped → List ℕ → Place → Place → Bool × List ℕ
left (Ok now) b l expected = (true, link_put b l now)
left (Err found) b l expected = (false, link_put b expected found)

-- the swap of the link at l, expecting the one at another place. Where either does not lie within the bytes, nothing happens.
unfoldable pub swapped_in : (ℕ → ℕ) → List ℕ → Place → Place → ℕ → Bool × List ℕ
swapped_in bump b l expected to =
    cond (lies l (length b) && lies expected (length b)) (left (swapped bump (link_at b l) (link_at b expected) to) b l expected) (false, b)
