use Rattle.ob_object_search.proofs.order_recording.last_state.Goals as goal

pub unreachable-requires : goal.unreachable-requires
unreachable-requires c = c.in_default.not-NoMemory (c.in-Err.ensures.accepted c.requires.0 c.requires.1)
