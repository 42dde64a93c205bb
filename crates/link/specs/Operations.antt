-- The link after each of the four operations. Document 01, "What the desk does": a link has a pointer, a mark and a change count.
-- `bump` is how a count changes: `next size` in the desk, `suc` in the machine whose counts never wrap.
use Rattle.std.specs.Prelude.{ℕ, Bool, cond, ◌&&◌, ◌==◌, Result, Ok, Err}
use Rattle.link.specs.declared.Link.{Link}

-- the two marks, as the image has them: "link mark (1 closed)"
abbrev pub OPEN : ℕ
OPEN = 0

abbrev pub CLOSED : ℕ
CLOSED = 1

-- "The fresh link is nil, closed, count 0."
unfoldable pub fresh : Link
fresh = record { pointer = 0; mark = CLOSED; count = 0 }

-- "Every point, open, close and successful swap, by anyone, adds 1 to the link's count, also where it writes what was there already."
unfoldable pub changed : (ℕ → ℕ) → Link → ℕ → ℕ → Link
changed bump l to marked = record { pointer = to; mark = marked; count = bump l.count }

abbrev pub pointed : (ℕ → ℕ) → Link → ℕ → Link
pointed bump l to = changed bump l to l.mark

abbrev pub opened : (ℕ → ℕ) → Link → Link
opened bump l = changed bump l l.pointer OPEN

abbrev pub closed : (ℕ → ℕ) → Link → Link
closed bump l = changed bump l l.pointer CLOSED

-- "A swap compares all three parts with an expected link."
unfoldable pub same : Link → Link → Bool
same l expected = l.pointer == expected.pointer && l.mark == expected.mark && l.count == expected.count

-- what a swap says: `Ok` has the link as it is now, `Err` the link found
abbrev pub Swapped : Type 0
Swapped = Result Link Link

-- "If equal, the pointer becomes the new one, the mark open, the count goes up by 1. If not, nothing changes and the link found is handed back."
unfoldable pub swapped : (ℕ → ℕ) → Link → Link → ℕ → Swapped
swapped bump l expected to =
    cond (same l expected) (Ok (changed bump l to OPEN)) (Err l)
