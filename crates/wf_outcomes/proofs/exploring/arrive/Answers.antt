-- By the words of what is kept.
use Rattle.wf_outcomes.proofs.Keeping.{arrival, still_worded}
use Rattle.wf_outcomes.proofs.exploring.arrive.Goals as goal

pub returns-clause-found : goal.returns-clause-found
returns-clause-found g c =
    arrival g.O.Object.meaning g.O.Object.words_of (λ a b. g.met.O.Object.told_apart a b) c.args.seen.now.keys c.args.there c.requires.worded c.requires.words c.insert.new.self.keys c.in_ok-_is_new.ensures.keys

pub returns-clause-worded : goal.returns-clause-worded
returns-clause-worded g c =
    still_worded g.O.Object.meaning g.O.Object.words_of (λ a b. g.met.O.Object.told_apart a b) c.args.seen.now.keys c.args.there c.requires.worded c.requires.words c.insert.new.self.keys c.in_ok-_is_new.ensures.keys
