use Rattle.std.proofs.Common.{◌≡◌, Ok, Err, rules}
use Rattle.disk.specs.declared.fault.Cause.TheVariants.{Outside, Gone}
use Rattle.disk.specs.declared.fault.DiskFault.{DiskFault}
use Rattle.layers.proofs.Rows.{popped-row, kept-last, all_whole}
use Rattle.layers.proofs.Holds.{LetsGo, spills-told, spills-gone}
use Rattle.layers.proofs.Downs.{follows-told, refused-gone}
use Rattle.layers.proofs.hold.Hold.put_down.Goals as goal
use Rattle.layers.proofs.hold.Hold.put_down.Goals.{in_default-put-via-in-Err+else-eq, in_default-put-via-in_default-put}

pub returns-in-Err : goal.returns-in-Err
returns-in-Err g c =
    let t = c.args.self.now.table in
    let y = c.in-Some.row.now in
    let is : c.in-Err.fault.cause ≡ Gone = search rules in
    let k = kept-last _ y t.tidy c.in-Some.ensures in
    let h = c.in-Err.ensures in
    record {
      rule = spills-gone _ _ _ _ _ k (all_whole t.rows.items t.tidy) c.in-Err.fault is h.rule;
      sound = h.rule.sound;
      fewer = tt;
      done = record { row = y; told = Err c.in-Err.fault; kept = k; asked = h.done; follows = refused-gone _ y _ is };
    }

pub returns-in_default-put : goal.returns-in_default-put
returns-in_default-put g c =
    let t = c.args.self.now.table in
    let u = c.pop.new.self in
    let y = c.in-Some.row.now in
    let p = popped-row _ y t.tidy c.in-Some.ensures c.pop.ensures in
    let told : LetsGo c.put.result =
    elim c.in_default-put.branch [
      | in_default-put-via-in-Err+else-eq w ↦ (let e : (f : DiskFault) × (c.put.result ≡ Err f) × (f.cause ≡ Outside) = search rules in rw e.1 e.2)
      | in_default-put-via-in_default-put w ↦ (let e : c.put.result ≡ Ok tt = search rules in rw e tt)
    ] in
    let h = c.put.ensures in
    record {
      rule = spills-told _ _ _ _ y.sector y.bytes p.kept p.without.gone p.without.others (all_whole u.rows.items u.tidy) c.put.result told c.requires.live h.rule;
      sound = h.rule.sound;
      fewer = p.fewer;
      done = record { row = y; told = c.put.result; kept = p.kept; asked = h.done; follows = follows-told c.put.result y _ _ told p.without };
    }
