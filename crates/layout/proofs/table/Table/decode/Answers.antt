use Rattle.layout.proofs.table.Table.decode.Goals as goal

pub returns : goal.returns
returns c = λ i. record { sectors = c.load.ensures i }
