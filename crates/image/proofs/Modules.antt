-- What a frame says of the log; a module that was found; and what its step looks at.
-- Assumes nothing.
use mathlib.Core.Path.{◌≡◌, sym, ◌∙◌, ap, ap₂, subst, subst⁻¹}
use mathlib.Core.List.{List}
use Prim.Native.Nat.{ℕ, ◌+◌, ◌-◌, ◌*◌, ◌≤◌}
use native.Mathlib.Omega.{arith}
use lib.ListN.{length}
use Rattle.link.specs.Count.{next, size}
use Rattle.stage.specs.Calls.{Call}
use Rattle.stage.specs.Rows.{looks_at, stepped}
use Rattle.stage.specs.Table.{step_of}
use Rattle.stage.specs.declared.Private.{Private}
use Rattle.stage.specs.declared.Shared.{Shared}
use Rattle.stage.specs.declared.Stepped.{Stepped}
use Rattle.stage.proofs.SoundCalls.{looks_known}
use Rattle.layout.specs.Layout.{modules, record_at, private_at, shared_at, trailer_at, read, byte}
use Rattle.layout.proofs.Rewritten.{private_read, shared_read, length_held}
use Rattle.image.specs.declared.Frame.{Frame}
use Rattle.image.specs.declared.Module.{Module}
use Rattle.image.specs.Call.{Does}
use Rattle.image.specs.Inside.{Framed, IsNumber, IsModule, Looks}
use Rattle.image.proofs.Sound.{table}
use Rattle.stage.specs.Answers.{Reply}

pub entries : (b : List ℕ) (f : Frame) → Framed b f → length (read b).log ≡ f.held
entries b f framed = length_held b framed.fits framed.held_fits ∙ sym framed.held_is

pub is_module : (b : List ℕ) (f : Frame) (p at : ℕ) (me : Private) → Framed b f → 1 ≤ p → p ≤ f.n → at ≡ f.first + 16 * (p - 1) → me ≡ private_at b at → IsModule b (record { frame = f; number = p; at = at; me = me })
is_module b f p at me framed least most place same =
    let high : p ≤ modules b = omega arith in
    let there : at ≡ record_at b p = omega arith in
    record {
      framed = framed;
      least = least;
      most = high;
      at_is = there;
      me_is = same ∙ ap (private_at b) there ∙ sym (private_read b p least high);
    }

pub same_number : (call : ℕ → Call) (b : List ℕ) {p q : ℕ} {x : Reply} {b' : List ℕ} → p ≡ q → Does (call p) b x b' → Does (call q) b x b'
same_number call b {x = x} {b' = b'} same = subst (λ (j : ℕ). Does (call j) b x b') same

-- the module that a step looks at
pub seen : (b : List ℕ) (p : ℕ) → IsNumber b p → (1 ≤ looks_at p ((read b).private p)) × (looks_at p ((read b).private p) ≤ modules b)
unfolding read
seen b p is = looks_known (modules b) p _ is.1 is.2 ((table b is.0).private p is.1 is.2)

module _ (b : List ℕ) (m : Module) (is : IsModule b m) where
  pub sees : (1 ≤ looks_at m.number m.me) × (looks_at m.number m.me ≤ modules b)
  sees =
      subst⁻¹ (λ (me : Private). (1 ≤ looks_at m.number me) × (looks_at m.number me ≤ modules b)) is.me_is
      (seen b m.number (is.framed.is, is.least, is.most))

  pub looks : (q at : ℕ) (s : Stepped) → q ≡ looks_at m.number m.me → at ≡ m.frame.first + 16 * (q - 1) → s ≡ stepped (next size) m.number m.me (shared_at b at) (byte b m.frame.trailer) →
      Looks b m (record { at = at; stepped = s })
  unfolding step_of read
  looks q at s eq place same =
      let p : ℕ = m.number in
      let there : at ≡ record_at b (looks_at p m.me) = omega (arith, is.framed.first_is) in
      record {
        is = is;
        least = sees.0;
        most = sees.1;
        at_is = there;
        stepped_is =
            same
            ∙ ap₂ (λ (i k : ℕ). stepped (next size) p m.me (shared_at b i) (byte b k)) there is.framed.trailer_is
            ∙ ap (λ (its : Shared). stepped (next size) p m.me its (byte b (trailer_at b))) (sym (shared_read b (looks_at p m.me) sees.0 sees.1))
            ∙ ap (λ (me : Private). stepped (next size) p me ((read b).shared (looks_at p me)) (read b).lock) is.me_is;
      }
