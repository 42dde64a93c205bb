-- What `clear_log` leaves is the image of the table with its log taken.
-- Assumes nothing.
use Rattle.std.proofs.Common.{◌≡◌, ◌<◌, ℕ, [], ◌∷◌, refl, ◌∙◌, ap, replicate, length, rules, arith}
use Rattle.std.proofs.Math.ListN.{length-take, length-drop, length-append}
use Rattle.std.proofs.lemmas.Slice.{put_mid-paste}
use Rattle.layout.specs.Layout.{log_of, byte}
use Rattle.image.proofs.Stored.{log_cleared}
use Rattle.whole.proofs.Copies.{stored_two}
use Rattle.whole.proofs.Taken.{long}
use Rattle.whole.proofs.clear_log.Goals as goal

pub returns : goal.returns
unfolding log_of
returns c =
    let fits = long _ c.requires in
    let bytes : (i : ℕ) → byte c.args.image.now i < 256 = search rules in
    let log : c.fill.new.self ≡ replicate 256 0 =
    c.fill.ensures.after (λ y h. h) ∙ ap (λ (n : ℕ). replicate n 0) {y = 256} (omega (arith, length-take {A = ℕ}, length-drop {A = ℕ})) in
    let log_long = ap length log in
    let held : c.fill-2.new.self ≡ 0 ∷ 0 ∷ [] =
    c.fill-2.ensures.after (λ y h. h) ∙ ap (λ (n : ℕ). replicate n 0) {y = 2} (omega (arith, length-take {A = ℕ}, length-drop {A = ℕ}, length-append {A = ℕ})) in
    log_cleared _ c.requires bytes refl (put_mid-paste _ _ _ _ _ 256 log (omega arith) refl)
    (put_mid-paste _ _ _ _ _ 2 held (omega arith) refl ∙ stored_two _ _ _ 0 0 (omega arith) (omega (arith, length-take {A = ℕ}, length-drop {A = ℕ}, length-append {A = ℕ})))
