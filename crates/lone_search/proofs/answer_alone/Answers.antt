-- What a search begins with.
use Rattle.lone_search.proofs.Stepping.{searching}
use Rattle.lone_search.proofs.answer_alone.Goals as goal

pub search-requires-clause-searching : goal.search-requires-clause-searching
search-requires-clause-searching c =
    searching c.args.session.now c.reserve.new.self c.answer.new.self c.in_ok-said.field-0 c.args.command c.requires.alone c.in_ok-reserve.ensures.after c.in_ok-reserve.ensures.room c.in-Search.is c.in_ok-said.ensures.answer c.in_ok-said.ensures.after
