-- The bench table. Document 01, "Bench table": B1 to B10, each told as a run of calls on an image, with what is to be seen on the way, in its order
-- and with its figures, B1 and B7 as document 02, R-1, has them. The calls are those of the public contracts: `reply` and `image`, on bytes.
use Rattle.std.specs.Prelude.{ℕ, zero, suc, ◌+◌, ◌≡◌, Bool, true, false, cond, ◌&&◌, List, [], ◌∷◌, ◌++◌, eqb, take, replicate, Ok, Err}
use Rattle.link.specs.Count.{next, size}
use Rattle.link.specs.Operations.{OPEN, CLOSED, opened}
use Rattle.link.specs.declared.Link.{Link}
use Rattle.stage.specs.Calls.{Call, set_up, begin_acquisition, begin_release, step, within}
use Rattle.stage.specs.Rows.{with_link}
use Rattle.stage.specs.Table.{Table, upd}
use Rattle.stage.specs.declared.Event.{Event}
use Rattle.stage.specs.declared.Event.TheVariants.{Done, Waiting, Admitted, Joined, Left, Finished, Taken, Nobody}
use Rattle.layout.specs.Layout.{length_for, read, put}
use Rattle.image.specs.Call.{reply, image}
use Rattle.line.specs.Mixed.{unraised}
use Rattle.stage.specs.Answers.{refusal_number, Reply}

abbrev pub nil : ℕ
nil = 0

-- What can be looked at: what the last call said, the image, and a link alone.
pub data Sight : Type 0 where
  -- the answer's number, and the admitted module if there is one; the refusal's number
  answer : Sight
  refusal : Sight
  lock : Sight
  -- of a module: its stage, its link, its prev, its w and its record priority
  stage : ℕ → Sight
  link : ℕ → Sight
  prev : ℕ → Sight
  w : ℕ → Sight
  priority : ℕ → Sight
  -- who is inside; who stands in the line; whom the log names; the first k bytes
  inside : Sight
  line : Sight
  log : Sight
  first : ℕ → Sight
  -- a link with this pointer, mark and count after an open
  opening : ℕ → ℕ → ℕ → Sight

-- "Links as (pointer, mark, count)."
abbrev pub parts : Link → List ℕ
parts l = l.pointer ∷ l.mark ∷ l.count ∷ []

abbrev pub link_from : ℕ → ℕ → ℕ → Link
link_from q marked k = record { pointer = q; mark = marked; count = k }

-- "Inside means stage 13 or 14": those of 1 to k that are
unfoldable pub insiders : ℕ → Table → List ℕ
insiders zero t = []
insiders (suc k) t = insiders k t ++ cond (within 13 14 (t.private (suc k)).stage) (suc k ∷ []) []

-- "follow link pointers from the lock word to nil": from q on, at most k of them. (No row looks at the line while a module is at stage 15 or 16.)
unfoldable pub followed : ℕ → Table → ℕ → List ℕ
followed zero t q = []
followed (suc k) t q = cond (eqb q nil) [] (q ∷ followed k t (t.shared q).link.pointer)

abbrev pub admitted : Event → List ℕ
admitted Done = []
admitted Waiting = []
admitted (Admitted p) = p ∷ []
admitted Joined = []
admitted Left = []
admitted Finished = []
admitted (Taken k) = []
admitted Nobody = []

abbrev pub answer_in : Reply → List ℕ
answer_in (Err k) = []
answer_in (Ok a) = a.number ∷ admitted a.event

abbrev pub refusal_in : Reply → List ℕ
refusal_in (Err k) = refusal_number k ∷ []
refusal_in (Ok a) = []

-- the figures seen, of the reply r and the image b
unfoldable pub figures : Sight → Reply → List ℕ → List ℕ
figures answer r b = answer_in r
figures refusal r b = refusal_in r
figures lock r b = (read b).lock ∷ []
figures (stage p) r b = ((read b).private p).stage ∷ []
figures (link p) r b = parts ((read b).shared p).link
figures (prev p) r b = ((read b).private p).prev ∷ []
figures (w p) r b = parts ((read b).private p).w
figures (priority p) r b = ((read b).shared p).priority ∷ []
figures inside r b = insiders (read b).n (read b)
figures line r b = followed ((read b).n + 1) (read b) (read b).lock
figures log r b = (read b).log
figures (first k) r b = take k b
figures (opening q marked k) r b = parts (opened (next size) (link_from q marked k))

unfoldable pub equal : List ℕ → List ℕ → Bool
equal [] [] = true
equal [] (y ∷ ys) = false
equal (x ∷ xs) [] = false
equal (x ∷ xs) (y ∷ ys) = eqb x y && equal xs ys

-- What a run tells: a call; what is to be seen, with its figures; for B9, since no run here makes 65,535 changes, that the count of p's link
-- is made k in the image; and that p, now at stage 19, is as a desk of before R-1 would have left it.
pub data Told : Type 0 where
  call : Call → Told
  see : Sight → List ℕ → Told
  counts : ℕ → ℕ → Told
  before : ℕ → Told

unfoldable pub counting : ℕ → ℕ → Table → Table
counting p k t =
    record {
      n = t.n;
      private = t.private;
      shared = upd t.shared p (with_link (link_from (t.shared p).link.pointer (t.shared p).link.mark k) (t.shared p));
      lock = t.lock;
      log = t.log;
    }

-- all that is to be seen is seen, on the image b, the last call having said r
unfoldable pub meets : List Told → Reply → List ℕ → Bool
meets [] r b = true
meets (call c ∷ others) r b = meets others (reply c b) (image c b)
meets (see x expected ∷ others) r b = equal (figures x r b) expected && meets others r b
meets (counts p k ∷ others) r b = meets others r (put (counting p k (read b)) b)
meets (before p ∷ others) r b = meets others r (put (unraised p (read b)) b)

-- The words of the rows.
abbrev pub begins : ℕ → ℕ → List Told
begins p r = call (begin_acquisition p r) ∷ see answer (0 ∷ []) ∷ []

abbrev pub releases : ℕ → List Told
releases p = call (begin_release p) ∷ see answer (0 ∷ []) ∷ []

-- p takes k steps
unfoldable pub steps : ℕ → ℕ → List Told
steps p zero = []
steps p (suc k) = call (step p) ∷ see refusal [] ∷ steps p k

-- p goes through these stages, a step for each after the first
unfoldable pub goes : ℕ → List ℕ → List Told
goes p [] = []
goes p (x ∷ []) = see (stage p) (x ∷ []) ∷ []
goes p (x ∷ y ∷ others) = see (stage p) (x ∷ []) ∷ steps p 1 ++ goes p (y ∷ others)

-- all the while this is seen
unfoldable pub throughout : Sight → List ℕ → List Told → List Told
throughout x expected [] = see x expected ∷ []
throughout x expected (t ∷ others) = see x expected ∷ t ∷ throughout x expected others

-- "module 1, priority 10: after 3 steps inside, link (nil, open, 2), lock 1"; R-1: "B1 takes 4 steps"
unfoldable pub B1 : List Told
B1 =
    begins 1 10
    ++ steps 1 4
    ++ see answer (2 ∷ 1 ∷ [])
    ∷ see inside (1 ∷ [])
    ∷ see (link 1) (nil ∷ OPEN ∷ 2 ∷ [])
    ∷ see lock (1 ∷ [])
    ∷ see log (1 ∷ [])
    ∷ []

-- "then module 2, priority 5: 8 steps; link 1 (2, open, 3), link 2 (nil, open, 3); the 9th answers 1"
unfoldable pub B2 : List Told
B2 =
    B1
    ++ begins 2 5
    ++ steps 2 8
    ++ see (link 1) (2 ∷ OPEN ∷ 3 ∷ [])
    ∷ see (link 2) (nil ∷ OPEN ∷ 3 ∷ [])
    ∷ steps 2 1
    ++ see answer (1 ∷ [])
    ∷ []

-- "then module 3, priority 8: 9 steps; link 1 (3, open, 4), link 3 (2, open, 3)"
unfoldable pub B3 : List Told
B3 =
    B2
    ++ begins 3 8
    ++ steps 3 9
    ++ see (link 1) (3 ∷ OPEN ∷ 4 ∷ [])
    ∷ see (link 3) (2 ∷ OPEN ∷ 3 ∷ [])
    ∷ see line (1 ∷ 3 ∷ 2 ∷ [])
    ∷ []

-- "then 1 releases: 5 steps; lock 3, record priority of 3 is 255; module 3 steps once and is admitted"
unfoldable pub B4 : List Told
B4 =
    B3
    ++ releases 1
    ++ steps 1 5
    ++ see answer (5 ∷ [])
    ∷ see lock (3 ∷ [])
    ∷ see (priority 3) (255 ∷ [])
    ∷ steps 3 1
    ++ see answer (2 ∷ 3 ∷ [])
    ∷ see inside (3 ∷ [])
    ∷ see log (1 ∷ 3 ∷ [])
    ∷ []

-- "after B1, module 2, priority 5, at stage 9 with w (nil, open, 2); 3, priority 8, ..": how B5 and B6 start
unfoldable pub overtaken : List Told
overtaken = B1 ++ begins 2 5 ++ goes 2 (1 ∷ 2 ∷ 4 ∷ 5 ∷ 6 ∷ 8 ∷ 9 ∷ []) ++ see (w 2) (nil ∷ OPEN ∷ 2 ∷ []) ∷ begins 3 8

-- ".. joins first through stage 11. 2's swap fails, stage 10, then 5, and it joins behind 3."
unfoldable pub B5 : List Told
B5 =
    overtaken
    ++ goes 3 (1 ∷ 2 ∷ 4 ∷ 5 ∷ 6 ∷ 8 ∷ 9 ∷ 11 ∷ 12 ∷ [])
    ++ see line (1 ∷ 3 ∷ [])
    ∷ goes 2 (9 ∷ 10 ∷ 5 ∷ 6 ∷ 7 ∷ 5 ∷ 6 ∷ 8 ∷ 9 ∷ 11 ∷ [])
    ++ see answer (3 ∷ [])
    ∷ see line (1 ∷ 3 ∷ 2 ∷ [])
    ∷ []

-- "as B5, but 3 still at stage 11: when 2 reads 3's link it returns to stage 1"
unfoldable pub B6 : List Told
B6 =
    overtaken
    ++ goes 3 (1 ∷ 2 ∷ 4 ∷ 5 ∷ 6 ∷ 8 ∷ 9 ∷ 11 ∷ [])
    ++ throughout (stage 3) (11 ∷ []) (goes 2 (9 ∷ 10 ∷ 5 ∷ 6 ∷ 7 ∷ 5 ∷ 1 ∷ []))
    ++ see (prev 2) (3 ∷ [])
    ∷ []

-- "after B1, module 3 with priority 20 goes 1, 2, 4, 5, 6 and .." by R-1 "joins", "while 1 stays inside"
unfoldable pub B7 : List Told
B7 =
    B1
    ++ begins 3 20
    ++ throughout inside (1 ∷ []) (goes 3 (1 ∷ 2 ∷ 4 ∷ 5 ∷ 6 ∷ 8 ∷ 9 ∷ 11 ∷ 12 ∷ []))
    ++ see line (1 ∷ 3 ∷ [])
    ∷ []

-- An image begun before R-1, in which module 1 went from 2 to 3 and its record was not raised, goes on as 01 has B7: ".. and back to 1".
unfoldable pub B7_before : List Told
B7_before =
    begins 1 10
    ++ goes 1 (1 ∷ 2 ∷ 19 ∷ [])
    ++ before 1
    ∷ see (stage 1) (3 ∷ [])
    ∷ steps 1 1
    ++ see answer (2 ∷ 1 ∷ [])
    ∷ begins 3 20
    ++ throughout inside (1 ∷ []) (goes 3 (1 ∷ 2 ∷ 4 ∷ 5 ∷ 6 ∷ 1 ∷ []))

-- "after B1, equal priorities: 2 then 3, both 5, stand 1, 2, 3"
unfoldable pub B8 : List Told
B8 =
    B1
    ++ begins 2 5
    ++ goes 2 (1 ∷ 2 ∷ 4 ∷ 5 ∷ 6 ∷ 8 ∷ 9 ∷ 11 ∷ 12 ∷ [])
    ++ begins 3 5
    ++ goes 3 (1 ∷ 2 ∷ 4 ∷ 5 ∷ 6 ∷ 7 ∷ 5 ∷ 6 ∷ 8 ∷ 9 ∷ 11 ∷ 12 ∷ [])
    ++ see line (1 ∷ 2 ∷ 3 ∷ [])
    ∷ []

-- "count 65,535 and an open: 0": of a link alone, and of module 1's at stage 3
unfoldable pub B9 : List Told
B9 =
    see (opening nil CLOSED 65535) (nil ∷ OPEN ∷ 0 ∷ [])
    ∷ begins 1 10
    ++ goes 1 (1 ∷ 2 ∷ 19 ∷ 3 ∷ [])
    ++ counts 1 65535
    ∷ see (link 1) (nil ∷ CLOSED ∷ 65535 ∷ [])
    ∷ steps 1 1
    ++ see (link 1) (nil ∷ OPEN ∷ 0 ∷ [])
    ∷ []

-- "the same module begins twice: the second is refused 4"
unfoldable pub B10 : List Told
B10 = begins 1 10 ++ call (begin_acquisition 1 10) ∷ see refusal (4 ∷ []) ∷ []

-- "B1 to B10 are the proved ones."
unfoldable pub table : List (List Told)
table = B1 ∷ B2 ∷ B3 ∷ B4 ∷ B5 ∷ B6 ∷ B7 ∷ B7_before ∷ B8 ∷ B9 ∷ B10 ∷ []

-- "All start fresh, n = 3": set up in a buffer that held other bytes, with three of an owner's in front
abbrev pub owner : List ℕ
owner = 71 ∷ 72 ∷ 73 ∷ []

abbrev pub buffer : List ℕ
buffer = owner ++ replicate (length_for 3) 165

-- every row, from a fresh image; and after it the owner's bytes are as they were
unfoldable pub all_meet : List (List Told) → Bool
all_meet [] = true
all_meet (row ∷ others) =
    meets (see answer (0 ∷ []) ∷ row ++ see (first 3) owner ∷ []) (reply (set_up 3) buffer) (image (set_up 3) buffer) && all_meet others

-- What is proved.
abbrev pub BenchTable : Type 0
BenchTable = all_meet table ≡ true
