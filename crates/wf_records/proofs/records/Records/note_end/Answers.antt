use Rattle.wf_records.proofs.records.Records.note_end.Goals as goal

pub push_end-requires : goal.push_end-requires
push_end-requires c = rw (← c.self.view_is) at c.requires
