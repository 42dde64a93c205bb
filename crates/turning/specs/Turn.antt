-- What one line of input does on an image. Document 01, "The program `turns`": "A line over 16 bytes, an empty line and anything else are malformed; such a line
-- is no call and prints `x 9`, also where the image is unsound."
use Rattle.std.specs.Prelude.{ℕ, ◌≡◌, List, Err, option_map, unwrap_or}
use Rattle.stage.specs.Calls.{Call, set_up, begin_acquisition, begin_release, step}
use Rattle.image.specs.Call.{reply, image}
use Rattle.lines.specs.Command.{command_of}
use Rattle.lines.specs.declared.Command.{Command}
use Rattle.lines.specs.declared.Command.TheVariants.{SetUp, BeginAcquisition, BeginRelease, Step}
use Rattle.stage.specs.Answers.{Reply}
use Rattle.stage.specs.declared.Refusal.TheVariants.{Malformed}

-- the call of a command
unfoldable pub call_of : Command → Call
call_of (SetUp k) = set_up k
call_of (BeginAcquisition p r) = begin_acquisition p r
call_of (BeginRelease p) = begin_release p
call_of (Step p) = step p

-- what the line l is answered on the image b, and the image that it leaves
unfoldable pub answer_to : List ℕ → List ℕ → Reply
answer_to l b = unwrap_or (option_map (λ c. reply (call_of c) b) (command_of l)) (Err Malformed)

unfoldable pub image_after : List ℕ → List ℕ → List ℕ
image_after l b = unwrap_or (option_map (λ c. image (call_of c) b) (command_of l)) b

-- what the contract of `turn` says
pub record Turns (l b : List ℕ) (r : Reply) (b' : List ℕ) : Type 0 where
  pub says : r ≡ answer_to l b
  pub leaves : b' ≡ image_after l b
