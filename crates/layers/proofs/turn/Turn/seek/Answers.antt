-- The first subject has what is sought, or the next has.
use Rattle.std.proofs.Common.{◌+◌, ◌≤◌, None, sym, ◌∙◌, subst, subst₂}
use Rattle.triples.specs.declared.position.Position.TheVariants.{Subject}
use Rattle.triples.specs.Meaning.{Meaning, largest_top}
use Rattle.triples.specs.Selectors.{select}
use Rattle.triples.specs.Seeks.{Least, Sought, Lowest, Leapt}
use Rattle.layers.specs.Inverses.{turned}
use Rattle.layers.proofs.Leaps.{sought_none, sought_first, sought_none_next, sought_next}
use Rattle.layers.proofs.Turns.{turned_term}
use Rattle.layers.proofs.turn.Turn.seek.Given.{Over}
use Rattle.layers.proofs.turn.Turn.seek.Goals.{In_ok-subject, In_default}
use Rattle.layers.proofs.turn.Turn.seek.Goals as goal

-- the subject is a term
term : (g : Over) (c : In_ok-subject g)
    → (1 ≤ c.in_ok-subject.subject) × (c.in_ok-subject.subject ≤ largest_top)
term g c =
    let below = c.args.below.now in
    turned_term (g.S.Store.meaning below) c.args.self.property c.args.self.inverse Subject c.args.selector
    c.args.start.subject c.in_ok-subject.subject c.args.self.named (g.S.Store.sound below)
    c.in_ok-subject.ensures.answer

pub returns-in_err-subject-clause-answer : goal.returns-in_err-subject-clause-answer
returns-in_err-subject-clause-answer g c =
    let set = turned c.args.self.property c.args.self.inverse (g.S.Store.meaning c.args.below.now) in
    subst (Sought set c.args.selector c.args.start) (sym c.from_residual.ensures)
    (sought_none set c.args.selector c.args.start c.in_err-subject.ensures.answer)

pub returns-in-Some-clause-answer : goal.returns-in-Some-clause-answer
returns-in-Some-clause-answer g c =
    let at = (goal.at.returns-in-Some-clause-answer g c).In_ok-subject in
    let set = turned c.args.self.property c.args.self.inverse in
    sought_first (set (g.S.Store.meaning c.args.below.now)) c.args.selector c.args.start
    c.in_ok-subject.subject c.in_ok-subject.ensures.answer (term g at).0 c.in-Some.found
    (subst₂ (λ (m : Meaning) s. Least (set m) s c.args.start c.in-Some.found)
    c.leap.ensures.same c.with-of_subject.ensures c.in-Some.ensures.answer)

-- nothing is sought of the first subject
nothing : (g : Over) (c : In_default g)
    → Sought (turned c.args.self.property c.args.self.inverse (g.S.Store.meaning c.args.below.now))
    (select c.args.selector Subject c.in_ok-subject.subject) c.args.start None
nothing g c =
    let set = turned c.args.self.property c.args.self.inverse in
    subst₂ (λ (m : Meaning) s. Sought (set m) s c.args.start None)
    c.leap.ensures.same c.with-of_subject.ensures c.in_default.ensures.answer

pub returns-in_err-next-clause-answer : goal.returns-in_err-next-clause-answer
returns-in_err-next-clause-answer g c =
    let at = goal.at.returns-in_err-next-clause-answer g c in
    let set = turned c.args.self.property c.args.self.inverse in
    let first = set (g.S.Store.meaning c.args.below.now) in
    let subject = c.in_ok-subject.subject in
    subst (Sought first c.args.selector c.args.start) (sym c.from_residual-in_err-next.ensures)
    (sought_none_next first c.args.selector c.args.start subject c.in_ok-subject.ensures.answer
    (term g at.In_ok-subject).0 (nothing g at.In_default)
    (subst (λ (m : Meaning). Leapt (set m) Subject c.args.selector (subject + 1) None)
    (c.seek_subject-2.ensures.same ∙ c.leap.ensures.same) c.in_err-next.ensures.answer))

pub returns-clause-answer : goal.returns-clause-answer
returns-clause-answer g c =
    let at = goal.at.returns-clause-answer g c in
    let set = turned c.args.self.property c.args.self.inverse in
    let subject = c.in_ok-subject.subject in
    let next = c.in_ok-next.next in
    let same = c.seek_subject-2.ensures.same ∙ c.leap.ensures.same in
    sought_next (set (g.S.Store.meaning c.args.below.now)) c.args.selector c.args.start subject
    c.in_ok-subject.ensures.answer (term g at.In_ok-subject).0 (nothing g at.In_default) next
    (subst (λ (m : Meaning). Lowest (set m) Subject c.args.selector (subject + 1) next) same
    c.in_ok-next.ensures.answer)
    c.seek_subject-3.result
    (subst₂ (λ (m : Meaning) s. Sought (set m) s c.args.start c.seek_subject-3.result)
    (c.leap-2.ensures.same ∙ same) c.with-of_next.ensures c.seek_subject-3.ensures.answer)
