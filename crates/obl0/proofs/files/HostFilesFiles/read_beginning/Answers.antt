use Rattle.std.proofs.Common.{sym}
use Rattle.std.proofs.lemmas.List.{take_all}
use Rattle.obl0.proofs.files.HostFilesFiles.read_beginning.Goals as goal

-- all that was read may stand for the file
pub returns-in-Ok : goal.returns-in-Ok
returns-in-Ok g c = (c.in-Ok.bytes.items, tt, sym (take_all c.args.most c.in-Ok.bytes.items c.in-Ok.ensures))
