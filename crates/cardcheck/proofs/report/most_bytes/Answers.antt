use Rattle.std.proofs.Common.{arith}
use Rattle.cardcheck.proofs.Enough.{reads_enough}
use Rattle.cardcheck.proofs.report.most_bytes.Goals as goal

pub returns-clause-enough : goal.returns-clause-enough
returns-clause-enough c = reads_enough _ (omega arith)
