-- The command of a task is read as the task, since it is read as the forms say.
use Rattle.std.proofs.Common.{rules}
use Rattle.feedtrace.proofs.WrittenTasks.{TaskReadsBack-from_said}
use Rattle.feedtrace.proofs.task.Task.parse.Goals as goal

pub returns-in-Some-of-clause-law : goal.returns-in-Some-of-clause-law
returns-in-Some-of-clause-law c = TaskReadsBack-from_said c.args.text.now _ (search rules)

pub returns-in-None-clause-law : goal.returns-in-None-clause-law
returns-in-None-clause-law c = TaskReadsBack-from_said c.args.text.now _ (search rules)

pub returns-in-None-2-clause-law : goal.returns-in-None-2-clause-law
returns-in-None-2-clause-law c = TaskReadsBack-from_said c.args.text.now _ (search rules)
