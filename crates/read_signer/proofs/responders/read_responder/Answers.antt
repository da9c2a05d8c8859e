-- `read_signer::responders::read_responder` meets its contract, by the first octet.
-- Assumes nothing.
use borrow.Author.Rules.{rules}
use Rattle.read_sequence.specs.CaseLaws.{choice_first, choice_second, named_element}
use Rattle.layout.proofs.Format.{responder_id}
use Rattle.read_signer.proofs.responders.read_responder.Goals as goal

pub starts_with-requires : goal.starts_with-requires
unfolding responder_id
starts_with-requires c = search rules

pub read_name-requires : goal.read_name-requires
unfolding responder_id
read_name-requires c = search rules

pub returns-then-starts_with : goal.returns-then-starts_with
unfolding responder_id
returns-then-starts_with c = search (named_element, choice_first)

pub read_key-requires : goal.read_key-requires
unfolding responder_id
read_key-requires c = search rules

pub returns : goal.returns
unfolding responder_id
returns c = search (named_element, choice_second)
