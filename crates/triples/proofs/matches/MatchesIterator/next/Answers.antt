-- Behind a match there are fewer triples.
use Rattle.triples.proofs.Ranks.{ahead_less}
use Rattle.triples.proofs.matches.MatchesIterator.next.Goals as goal

pub returns-clause-goes : goal.returns-clause-goes
returns-clause-goes g c = record {
  on = λ _. (
    tt,
    tt,
    ahead_less (g.S.Store.meaning c.args.self.now.store.now)
        (g.S.Store.sound c.args.self.now.store.now) c.in_ok-found.ensures.answer.candidate
        c.behind-self.ensures,
  );
  keeps = tt;
  rests = λ _. tt;
}
