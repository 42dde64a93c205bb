-- The bench table holds: every run computes.
-- Assumes nothing.
use mathlib.Core.Path.{refl}
use Rattle.link.specs.Operations.{fresh, changed, same, swapped}
use Rattle.stage.specs.Calls.{refusals, refusing, answered, after}
use Rattle.stage.specs.Rows.{rows, find, looks_at, stepped}
use Rattle.stage.specs.Sound.{sound_link, sound_own, sound_stage, sound_private, sound_shared, every, each, sound_table}
use Rattle.stage.specs.Table.{upd, idle, untouched, fresh_table, begun_acquisition, begun_release, step_of, logged, after_step}
use Rattle.layout.specs.Layout.{two, four, private_at, shared_at, held, read, record_of, records_of, log_of, trailer_of, write, put}
use Rattle.soundness.specs.SoundImage.{sound_trailer, sound_zeros, sound_log, sound}
use Rattle.image.specs.Call.{refused, reply, image}
use Rattle.line.specs.Mixed.{unraised}
use Rattle.bench.specs.Table.{insiders, followed, figures, equal, counting, meets, all_meet, steps, goes, throughout, B1, B2, B3, B4, overtaken, B5, B6, B7, B7_before, B8, B9, B10, table, BenchTable}

pub bench_table : BenchTable
unfolding fresh changed same swapped refusals refusing answered after rows find looks_at stepped sound_link sound_own sound_stage sound_private
    sound_shared every each sound_table upd idle untouched fresh_table begun_acquisition begun_release step_of logged after_step two four private_at
    shared_at held read record_of records_of log_of trailer_of write put sound_trailer sound_zeros sound_log sound refused reply image insiders
    followed figures equal counting unraised meets all_meet steps goes throughout B1 B2 B3 B4 overtaken B5 B6 B7 B7_before B8 B9 B10 table
bench_table = refl
