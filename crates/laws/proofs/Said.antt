-- A conjunction of tests, as code makes it: `if !first(..) { return false; } .. last(..)`, and a test as code says it.
-- Assumes nothing.
use mathlib.Core.Path.{◌≡◌, refl, sym, ◌∙◌, ap}
use mathlib.Core.Bool.{Bool, true, false, cond, not, ◌&&◌}
use borrow.Author.Tests.{eq-eqb, ne_eqb, le-leb, lt-leb, lt-ltb, le-ltb, not-true, not-false}

-- one that is false makes it false
pub no_left : (a b : Bool) → a ≡ false → (a && b) ≡ false
no_left a b e = ap (λ (x : Bool). x && b) e

pub no_right : (a b : Bool) → b ≡ false → (a && b) ≡ false
no_right true b e = e
no_right false b e = refl

-- all but the last are true: it is the last
pub yes_then : (a b c : Bool) → a ≡ true → b ≡ c → (a && b) ≡ c
yes_then a b c e same = ap (λ (x : Bool). x && b) e ∙ same

-- a callee that was asked said no, or yes
pub said_no : (r a : Bool) → r ≡ a → not r ≡ true → a ≡ false
said_no r a e no_r = sym e ∙ not-true r no_r

pub said_yes : (r a : Bool) → r ≡ a → not r ≡ false → a ≡ true
said_yes r a e yes_r = sym e ∙ not-false r yes_r

pub turned : (a b : Bool) → b ≡ a → a ≡ b
turned a b e = sym e

pub ruleset said = (turned, no_left, no_right, yes_then, said_no, said_yes, eq-eqb, ne_eqb, le-leb, lt-leb, lt-ltb, le-ltb)

-- a choice by tests, as code makes it: `if first(..) { return x; } .. y`
pub taken : {A : Type 0} (b : Bool) (x y z : A) → b ≡ true → z ≡ x → z ≡ cond b x y
taken b x y z e same = same ∙ sym (ap (λ (t : Bool). cond t x y) e)

pub passed : {A : Type 0} (b : Bool) (x y z : A) → b ≡ false → z ≡ y → z ≡ cond b x y
passed b x y z e same = same ∙ sym (ap (λ (t : Bool). cond t x y) e)

-- a function of what was asked, at what it was found to be
pub found : {A B : Type 0} (f : A → B) {x y : A} {z : B} → x ≡ y → z ≡ f y → z ≡ f x
found f e same = same ∙ sym (ap f e)

-- a callee that was asked, and its answer turned round
pub said_not : (r a t : Bool) → r ≡ a → not r ≡ t → not a ≡ t
said_not r a t e said = ap not (sym e) ∙ said

pub ruleset choices = (taken, passed, said_not, said_no, said_yes, eq-eqb, ne_eqb, le-leb, lt-leb, lt-ltb, le-ltb)
