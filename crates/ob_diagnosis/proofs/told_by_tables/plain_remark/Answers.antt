use Rattle.ob_diagnosis.proofs.told_by_tables.plain_remark.Goals as goal

pub told-requires : goal.told-requires
told-requires c = c.requires _ _ _
