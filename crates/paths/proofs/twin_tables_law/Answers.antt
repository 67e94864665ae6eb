use Rattle.paths.proofs.Tables.{twin_tables_law}
use Rattle.paths.proofs.twin_tables_law.Goals as goal

pub returns : goal.returns
returns c = twin_tables_law
