use Rattle.std.proofs.Common.{[], ◌∷◌, map}
use Rattle.ob_interface.specs.Call.{Trapped}
use Rattle.wf_history.specs.History.{End}
use Rattle.wf_history.specs.View.{event_of}
use Rattle.wf_lookup.proofs.Turns.{front_whole}
use Rattle.ob_object_search.proofs.possible.could_end.Goals as goal

pub copied-requires : goal.copied-requires
copied-requires c = front_whole (map event_of c.args.before.now) (End c.args.end (Trapped 1) ∷ []) (c.requires (Trapped 1))
