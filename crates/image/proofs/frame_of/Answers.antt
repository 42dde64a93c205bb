-- `frame_of` reads n and the log length of a sound image; all places follow from n and the length of the buffer.
-- Assumes nothing.
use mathlib.Core.Path.{refl}
use native.Mathlib.Omega.{arith}
use Rattle.layout.specs.Layout.{held, read}
use Rattle.image.proofs.Sound.{written, table}
use Rattle.image.proofs.frame_of.Goals as goal

pub overflow_sub-trailer : goal.overflow_sub-trailer
overflow_sub-trailer c = omega (arith, (written _ c.requires).fits)

pub two_at-n-requires : goal.two_at-n-requires
two_at-n-requires c = omega (arith, (written _ c.requires).fits)

pub overflow_sub-result : goal.overflow_sub-result
overflow_sub-result c = omega (arith, (written _ c.requires).fits)

pub overflow_sub-result-2 : goal.overflow_sub-result-2
overflow_sub-result-2 c = omega (arith, (written _ c.requires).fits)

pub two_at-requires : goal.two_at-requires
two_at-requires c = omega (arith, (written _ c.requires).fits)

pub returns : goal.returns
unfolding held read
returns c =
    let is = c.requires in
    record {
      is = is;
      n_is = c.two_at-n.ensures;
      first_is = cc;
      log_is = refl;
      trailer_is = refl;
      held_is = c.two_at.ensures;
      fits = (written _ is).fits;
      least = (table _ is).some;
      most = (table _ is).few;
      held_fits = (written _ is).held_fits;
    }
