use Rattle.rules.specs.Step.{new_set}
use Rattle.step.proofs.changes.apply.Goals as goal

pub take_and_ask-requires : goal.take_and_ask-requires
unfolding new_set
take_and_ask-requires g c = record { room = c.requires.room }

pub returns-clause-items : goal.returns-clause-items
unfolding new_set
returns-clause-items g c = c.take_and_ask.ensures.items
