-- What was put, piece by piece, and a text that has room or none. Assumes nothing.
use mathlib.Core.Path.{◌≡◌, refl, ◌∙◌, ap}
use mathlib.Core.List.{List, [], ◌∷◌, ◌++◌, append_assoc}
use Prim.Native.Nat.{ℕ, ◌+◌, ◌≤◌, ◌<◌}
use native.Mathlib.Omega.{arith}
use lib.ListN.{length, take, drop, length-append}
use Rattle.std.proofs.lemmas.Grind.{common_steps}
use Rattle.std.proofs.lemmas.Bool.Decides.{nat_tests}
use lib.Seq.{drop-drop}
use Rattle.lines.specs.declared.Text.{Text}
use Rattle.lines.specs.Inside.{Put, HasRoom, Puts}
use Rattle.lines.specs.Text.{line_text, fits, place_after, written, WritesTo}
use Rattle.lines.proofs.Texts.{line_length}

module _ {bytes : List ℕ} {old mid : Text} (p : Puts bytes old mid) where
  -- all up to the place after it
  pub front : take mid.at mid.buffer.now ≡ take old.at old.buffer.now ++ bytes
  front = grind (arith, common_steps, p.text)

  rest : drop mid.at mid.buffer.now ≡ drop mid.at old.buffer.now
  rest = grind (arith, common_steps, p.text)

  -- with more put after it
  pub put_then : {more all : List ℕ} {new : Text} → Puts more mid new → all ≡ bytes ++ more → Puts all old new
  put_then {more} {all} {new} q all_is =
      let e : drop new.at mid.buffer.now ≡ drop new.at old.buffer.now = rw (q.text.after, ← drop-drop (length more) mid.at mid.buffer.now, rest) (drop-drop (length more) mid.at old.buffer.now) in
      let put : Put all old.buffer.now old.at new.at new.buffer.now = record {
        after = omega (arith, p.text.after, q.text.after, ap length all_is, length-append bytes more);
        room = omega (arith, p.text.same, q.text.room);
        same = q.text.same ∙ p.text.same;
        leaves = q.text.leaves ∙ rw (front, e, all_is) (simp append_assoc);
      } in
      record { text = put; same_buffer = q.same_buffer ∙ p.same_buffer }

  -- it had room, so that is what was to be written
  put_writes : WritesTo bytes old mid
  unfolding fits place_after written
  put_writes = record { text = record { answers = grind (arith, nat_tests, p.text); leaves = grind (arith, nat_tests, p.text) }; same_buffer = p.same_buffer }

-- it has room, so it was put
pub writes_put : {bytes : List ℕ} {old new : Text} → HasRoom old (length bytes) → WritesTo bytes old new → Puts bytes old new
unfolding fits place_after written
writes_put {bytes} {old} {new} h w =
    let after : new.at ≡ old.at + length bytes = grind (arith, nat_tests, w.text) in
    let leaves : new.buffer.now ≡ take old.at old.buffer.now ++ bytes ++ drop new.at old.buffer.now = grind (arith, nat_tests, w.text) in
    record { text = record { after = after; room = omega arith; same = grind (arith, common_steps); leaves = leaves }; same_buffer = w.same_buffer }

-- a line that has no room
pub line_unwritten : (word rest : List ℕ) (text : Text) → length text.buffer.now < text.at + (length word + length rest + 1) → WritesTo (line_text word rest) text text
unfolding fits place_after written
line_unwritten word rest text h =
    let e = line_length word rest in
    record { text = record { answers = grind (arith, nat_tests); leaves = grind (arith, nat_tests) }; same_buffer = refl }

-- a line that was put part by part
pub line_written : {word rest : List ℕ} {t₀ t₁ t₂ t₃ : Text} → Puts word t₀ t₁ → Puts rest t₁ t₂ → Puts (10 ∷ []) t₂ t₃ → WritesTo (line_text word rest) t₀ t₃
unfolding line_text
line_written p q s = put_writes (put_then (put_then p q refl) s refl)

-- what a short text leaves of the room
pub room_left : {bytes : List ℕ} {old new : Text} (most left : ℕ) → length bytes ≤ most → HasRoom old (most + left) → WritesTo bytes old new → HasRoom new left
room_left most left short h writes = let put = (writes_put (omega arith) writes).text in omega (arith, put.after, put.same)
