use Rattle.std.proofs.Common.{◌≡◌, ◌+◌, ◌-◌, ◌*◌, take, drop, ap, ◌∙◌, arith}
use Rattle.disk.proofs.Bytes.{sector-is}
use Rattle.disk.proofs.image.read_sector.Goals as goal

pub returns : goal.returns
returns c =
    let is : (1024 * c.args.n + 1024) - 1024 * c.args.n ≡ 1024 = omega arith in
    c.copy_from_slice.ensures.after
    ∙ (ap (λ m. take m (drop (1024 * c.args.n) c.args.all.now)) is
    ∙ sector-is c.args.all.now c.args.n (λ i. (c.type_inv.all i).fits))
