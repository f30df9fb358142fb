use Rattle.std.proofs.Common.{◌≡◌, ◌+◌, ◌-◌, ◌*◌, ap, ◌∙◌, arith}
use Rattle.disk.specs.Sectors.{written}
use Rattle.disk.proofs.Bytes.{written-part}
use Rattle.disk.proofs.image.write_sector.Goals as goal

pub returns : goal.returns
returns c =
    let is : (1024 * c.args.n + 1024) - 1024 * c.args.n ≡ 1024 = omega arith in
    record {
      after = written-part c.args.all.now c.copy_in.new.part c.args.n _ is ∙ ap (written c.args.all.now c.args.n) c.copy_in.ensures;
      whole = record { long = c.told-bytes; bytes = c.fits-bytes };
    }
