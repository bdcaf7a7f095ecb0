-- A machine of the object is one of its program.
use Rattle.ob_desk_serve.proofs.Closed.{is_object}
use Rattle.ob_object_compile.specs.View.{object_in}
use Rattle.ob_code_refusals.proofs.machine_records.add_record.Goals as goal

pub recorded-requires : goal.recorded-requires
recorded-requires c =
    let m = c.args.machine in
    is_object (object_in c.args.object.now) m.engine.parts m.opening c.requires.sound c.requires.code c.requires.opening _ c.layout.ensures
