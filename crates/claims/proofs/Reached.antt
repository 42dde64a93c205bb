-- 6n - 1 turns are reached: the run computes. Assumes nothing.
use mathlib.Core.Path.{refl}
use Rattle.link.specs.Operations.{fresh, changed, same, swapped}
use Rattle.stage.specs.Calls.{refusals, refusing, answered, after}
use Rattle.stage.specs.Rows.{rows, find, looks_at, stepped}
use Rattle.stage.specs.Sound.{sound_link, sound_own, sound_stage, sound_private, sound_shared, every, each, sound_table}
use Rattle.stage.specs.Table.{upd, idle, untouched, fresh_table, begun_acquisition, begun_release, step_of, logged, after_step}
use Rattle.stage.specs.Turns.{from, around, first_that, next_after}
use Rattle.layout.specs.Layout.{two, four, private_at, shared_at, held, read, record_of, records_of, log_of, trailer_of, write, put}
use Rattle.soundness.specs.SoundImage.{sound_trailer, sound_zeros, sound_log, sound}
use Rattle.image.specs.Call.{refused, reply, image}
use Rattle.image.specs.Turn.{turn_of}
use Rattle.line.specs.History.{state}
use Rattle.claims.specs.Turns.{stepping, turning, past, times, waited, Reached}

pub reached : Reached
unfolding fresh changed same swapped refusals refusing answered after rows find looks_at stepped sound_link sound_own sound_stage sound_private
    sound_shared every each sound_table upd idle untouched fresh_table begun_acquisition begun_release step_of logged after_step from around first_that
    next_after two four private_at shared_at held read record_of records_of log_of trailer_of write put sound_trailer sound_zeros sound_log sound refused
    reply image turn_of state stepping turning past times waited
reached = (refl, refl, refl)
