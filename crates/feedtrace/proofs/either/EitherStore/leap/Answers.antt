use Rattle.feedtrace.proofs.either.EitherStore.leap.Goals as goal

pub returns-in-Left-clause-answer : goal.returns-in-Left-clause-answer
returns-in-Left-clause-answer g c = rw c.in-Left.is c.leap.ensures.answer

pub returns-in-Right-clause-answer : goal.returns-in-Right-clause-answer
returns-in-Right-clause-answer g c = rw c.in-Right.is c.leap-in-Right.ensures.answer
