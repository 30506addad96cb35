use Rattle.rules.specs.Kinds.{values_by}
use Rattle.rules.proofs.theorems.law_holds.Goals as goal
use Rattle.rules.proofs.Stands.{law}

pub returns : goal.returns
returns g c = law (values_by g.S.Of.Ord.cmp g.S.Of.Value.blank g.S.Of.Value.reads) g.met.S.Of.Value.total g.S.Viewed.view g.T.Viewed.view
