use Rattle.std.proofs.Common.{refl}
use Rattle.layers.proofs.Rows.{sound-table}
use Rattle.layers.proofs.hold.HoldDisk.live.Goals as goal

pub returns : goal.returns
returns g c = record { is = c.live.ensures.is; same = refl; sound = sound-table c.args.self.now.table _ c.live.ensures.sound }
