use Rattle.std.proofs.Common.{Ok, Err, refl, ap, arith}
use Rattle.numbers.specs.declared.sector.Sector.{Sector}
use Rattle.layout.specs.declared.table.Table.{Table}
use Rattle.survey.specs.Asks.{told, entry_turn}
use Rattle.survey.proofs.Tellings.{exit, t_ends, t_start, t_more, t_broke, still, s_said, s_read, s_unread, got-shown}
use Rattle.survey.proofs.Files.{entry-in, entry-out, table-all}
use Rattle.survey.proofs.file.ask_table.Goals as goal
use Rattle.survey.proofs.file.ask_table.Goals.{then-k-j+in_ok-follow, else-k-j}

pub loop-j-init : goal.loop-j-init
loop-j-init g c = λ b rows p. t_start _ (entry_turn b c.args.last c.args.k c.args.table.0) 0

pub loop-j-preserved : goal.loop-j-preserved
loop-j-preserved g c = λ b rows p.
    t_more (entry_turn b c.args.last c.args.k c.args.table.0) 0 _ (omega arith) (c.loop-j.invariant b rows p)
    (elim c.if-k-j.branch [
      | then-k-j+in_ok-follow w ↦ t_ends w.findings-is (entry-in b _ c.args.last c.args.k c.args.table.0 _ _ p (omega arith) w.if-k-j.true (w.in_ok-follow.ensures.told rows))
      | else-k-j w ↦ t_ends w.findings-is (entry-out _ b c.args.last c.args.k c.args.table.0 _ w.if-k-j.false)
    ])

pub returns-in_err-get : goal.returns-in_err-get
returns-in_err-get g c = λ rows.
    s_said (λ w s. refl) (ap told (exit _ c.from_residual.ensures.1)) (s_unread _ _ c.in_err-get.ensures.rule c.in_err-get.ensures.done (omega arith))

pub returns-in_err-follow : goal.returns-in_err-follow
returns-in_err-follow g c = λ rows.
    let b = c.get.new.into in
    let a = c.args.last in let k = c.args.k in let t = c.args.table.0 in
    s_said (λ w s. table-all b a k t 256 w refl (got-shown c.in_ok-get.ensures.rule s c.from.ensures)) (ap told (exit _ c.from_residual-in_err-follow.ensures.1))
    (s_read c.in_ok-get.ensures.rule c.in_ok-get.ensures.done
    (still {T = Sector} _ (Err c.in_err-follow.field-0.0)
    (t_broke (entry_turn b a k t) 0 _ 256 (omega arith) (omega arith) (c.loop-j.invariant b rows (ap (λ (y : Table). y.sectors) c.decode.ensures))
    (entry-in b _ a k t _ _ (ap (λ (y : Table). y.sectors) c.decode.ensures) (omega arith) c.if-k-j.true (c.in_err-follow.ensures.told rows)))))

pub returns : goal.returns
returns g c = λ rows.
    let b = c.get.new.into in
    let a = c.args.last in let k = c.args.k in let t = c.args.table.0 in
    s_said (λ w s. table-all b a k t _ w (omega arith) (got-shown c.in_ok-get.ensures.rule s c.from.ensures)) refl
    (s_read c.in_ok-get.ensures.rule c.in_ok-get.ensures.done (still {T = Unit {0}} _ (Ok tt) (c.loop-j.invariant b rows (ap (λ (y : Table). y.sectors) c.decode.ensures))))
