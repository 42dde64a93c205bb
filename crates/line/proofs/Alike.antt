-- Two desks that show the same tables and say the same after every history: what is promised of one is promised of the other. Assumes nothing.
use Prim.Native.Nat.{ℕ, ◌+◌, ◌<◌}
use mathlib.Core.Path.{◌≡◌, refl, sym, ap, subst₂, subst₃, transport}
use mathlib.Core.Bool.{Bool, false, cond}
use mathlib.Core.List.{List, [], ◌∷◌}
use mathlib.Core.Logic.{◌≢◌}
use Rattle.stage.specs.Calls.{Call, set_up, begin_acquisition, begin_release, step, take_log}
use Rattle.stage.specs.Table.{Table}
use Rattle.line.specs.Corollaries.{Corollaries, Relied}
use Rattle.line.specs.Demand3.{changed, reads, changes_since, InTime, Premise, Inside, Holds, Demand3}
use Rattle.line.specs.History.{Desk, state, table, transcript, course, taken, takes}
use Rattle.line.specs.LetIn.{LetIn}
use Rattle.line.specs.Mixed.{called_by, mixed}

module _ (D E : Desk) (s : D.State) (e : E.State) (tables : (cs : List Call) → table D s cs ≡ table E e cs)
    (says : (c : Call) (cs : List Call) → D.says c (state D s cs) ≡ E.says c (state E e cs)) where
  since_alike : (p x : ℕ) (cs : List Call) → changes_since D s p x cs ≡ changes_since E e p x cs
  unfolding changes_since
  since_alike p x [] = refl
  since_alike p x (c ∷ cs) = λ i. cond (reads p c (tables cs i)) 0 (since_alike p x cs i + changed (tables cs i) (tables (c ∷ cs) i) x)

  in_time : (m : ℕ) (c : Call) (cs : List Call) → InTime D s m c cs → InTime E e m c cs
  unfolding InTime
  in_time m (set_up k) cs z = tt
  in_time m (begin_acquisition p r) cs z = tt
  in_time m (begin_release p) cs z = tt
  in_time m (step p) cs z =
      transport (λ i. ((tables cs i).private p).stage ≡ 9 → since_alike p ((tables cs i).private p).prev cs i < m) z
  in_time m (take_log room) cs z = tt

  pub premise : (m : ℕ) (cs : List Call) → Premise D s m cs → Premise E e m cs
  unfolding Premise
  premise m [] z = tt
  premise m (c ∷ cs) z = (in_time m c cs z.0, premise m cs z.1)

  pub heard_alike : (cs : List Call) → transcript D s cs ≡ transcript E e cs
  unfolding transcript
  heard_alike [] = refl
  heard_alike (c ∷ cs) = λ i. (c, says c cs i) ∷ heard_alike cs i

  taken_alike : (cs : List Call) → taken D s cs ≡ taken E e cs
  unfolding taken
  taken_alike [] = refl
  taken_alike (c ∷ cs) = λ i. takes c (says c cs i) (tables cs i).log (taken_alike cs i)

  pub demand3_alike : (m : ℕ) → Demand3 E e m → Demand3 D s m
  demand3_alike m d cs z =
      subst₃ Holds (sym (tables cs)) (sym (ap course (heard_alike cs))) (sym (taken_alike cs)) (d cs (premise m cs z))

  pub relied_alike : (m : ℕ) → Relied E e m → Relied D s m
  relied_alike m d cs z = subst₂ Corollaries (sym (heard_alike cs)) (sym (tables cs)) (d cs (premise m cs z))

  pub let_in_alike : (m : ℕ) → LetIn E e m → LetIn D s m
  let_in_alike m d cs z p =
      subst₂ (λ (t t' : Table). (t.private p).stage ≡ 6 → Inside t (t.private p).prev → (t'.private p).stage ≢ 1)
      (sym (tables cs)) (sym (tables (step p ∷ cs))) (d cs (premise m cs z) p)

-- desks of today alone are desks of both kinds, none of which is of before R-1
abbrev pub never : ℕ → Bool
never k = false

module _ (D : Desk) (write : Table → D.State → D.State) (s : D.State) where
  same_state : (cs : List Call) → state D s cs ≡ (state (mixed never D write) (0, s) cs).1
  unfolding state called_by
  same_state [] = refl
  same_state (c ∷ cs) = ap (D.leaves c) (same_state cs)

  pub today : (cs : List Call) → table D s cs ≡ table (mixed never D write) (0, s) cs
  today cs = ap D.shows (same_state cs)

  pub says_today : (c : Call) (cs : List Call) → D.says c (state D s cs) ≡ (mixed never D write).says c (state (mixed never D write) (0, s) cs)
  unfolding called_by
  says_today c cs = ap (D.says c) (same_state cs)
