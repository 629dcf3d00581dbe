use Rattle.shown_runs.proofs.Matching.{streams_are_for, streams_match, streams_match_in_contexts}
use Rattle.shown_runs.proofs.streams_match.Goals as goal

pub returns-clause-table : goal.returns-clause-table
returns-clause-table c = streams_are_for

pub returns-clause-contexts : goal.returns-clause-contexts
returns-clause-contexts c = streams_match_in_contexts

pub returns-clause-one : goal.returns-clause-one
returns-clause-one c = streams_match
