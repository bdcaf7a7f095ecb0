use Rattle.ob_meaning.specs.ByNameEvaluation.{by_name}
use Rattle.ob_meaning.specs.ByPositionEvaluation.{by_position}
use Rattle.ob_trap_places.proofs.WithoutSites.{value, body_same}
use Rattle.ob_trap_places.proofs.sites_laws.sites_are_of_the_meaning.Goals as goal

pub returns-clause-value : goal.returns-clause-value
returns-clause-value c = value by_position

pub returns-clause-statements : goal.returns-clause-statements
returns-clause-statements c = body_same by_position

pub returns-clause-value_by_name : goal.returns-clause-value_by_name
returns-clause-value_by_name c = value by_name

pub returns-clause-statements_by_name : goal.returns-clause-statements_by_name
returns-clause-statements_by_name c = body_same by_name
