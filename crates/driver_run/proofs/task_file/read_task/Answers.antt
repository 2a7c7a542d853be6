use Rattle.std.proofs.Common.{◌∙◌, sym}
use Rattle.std.specs.FinMap.{get}
use Rattle.sas_reader.specs.Walks.{task_of}
use Rattle.driver_run.specs.Reports.{TellsBytes, TellsFile}
use Rattle.driver_run.proofs.Tells.{too_long_is_refused, told_by_bytes, if_ok_weaker}
use Rattle.driver_run.proofs.task_file.read_task.Goals as goal

pub returns-in-Ok-TooLong-clause-tells : goal.returns-in-Ok-TooLong-clause-tells
returns-in-Ok-TooLong-clause-tells g c files idle held = too_long_is_refused (get files c.args.name.now) (sym c.in-Ok-TooLong.field-0-is ∙ c.in-Ok-TooLong.ensures.exact files idle held)

pub returns-in-Ok-Bytes-clause-tells : goal.returns-in-Ok-Bytes-clause-tells
returns-in-Ok-Bytes-clause-tells g c files idle held =
    let tells = rw c.deref.ensures at c.task_of.ensures.tells in
    if_ok_weaker (TellsBytes (task_of c.in-Ok-Bytes.bytes)) (TellsFile (get files c.args.name.now)) c.task_of.result
    (λ found. told_by_bytes (get files c.args.name.now) c.in-Ok-Bytes.bytes found (sym c.in-Ok-Bytes.field-0-is ∙ c.in-Ok-Bytes.ensures.exact files idle held)) tells
