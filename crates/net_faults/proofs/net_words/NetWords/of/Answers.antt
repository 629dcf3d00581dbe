use Rattle.std.proofs.Common.{◌∙◌, ◌++◌}
use Rattle.std.proofs.lemmas.Result.{IfOk-weaker}
use Rattle.netlist_rules.specs.Drivers.{actuals, is_unknown_pin}
use Rattle.net_faults.specs.NetWords.{other_drivers}
use Rattle.net_faults.proofs.Numbers.{still_numbered, keeps_more}
use Rattle.net_faults.proofs.net_words.NetWords.of.Goals as goal

pub returns-clause-numbers : goal.returns-clause-numbers
returns-clause-numbers c =
    let first = c.number_found.new.self in
    let second = c.number_found-2.new.self in
    let third = c.number_found-3.new.self in
    let last = c.number_found-4.new.self in
    let numbering = c.in_ok-unknown.ensures.numbering in
    let from_third = c.in_ok-unknown.ensures.keeps in
    let from_second = keeps_more second third last c.in_ok-others.ensures.keeps from_third in
    let from_first = keeps_more first second last c.in_ok-outputs.ensures.keeps from_second in record {
      inputs = still_numbered first last c.in_ok-inputs.inputs.items numbering from_first c.in_ok-inputs.ensures.numbers;
      outputs = still_numbered second last c.in_ok-outputs.outputs.items numbering from_second c.in_ok-outputs.ensures.numbers;
      others = still_numbered third last c.in_ok-others.others.items numbering from_third c.in_ok-others.ensures.numbers;
      unknown = c.in_ok-unknown.ensures.numbers;
    }

pub returns-clause-ports : goal.returns-clause-ports
returns-clause-ports c = record {
  inputs = c.in_ok-inputs.ensures.words (c.args.model.now.ins ++ c.args.model.now.clocks) c.input_words.ensures;
  outputs = c.in_ok-outputs.ensures.words c.args.model.now.outs (IfOk-weaker c.port_words.result _ _ (λ words are. are ∙ c.as_slice.ensures) c.port_words.ensures);
}

pub returns-clause-drivers : goal.returns-clause-drivers
returns-clause-drivers c models knows = record {
  others = c.in_ok-others.ensures.words (other_drivers models c.args.model.now) (IfOk-weaker c.other_drivers.result _ _ (λ words told. told models knows) c.other_drivers.ensures);
  unknown = c.in_ok-unknown.ensures.words (actuals models is_unknown_pin c.args.model.now) (IfOk-weaker c.actual_words.result _ _ (λ words told. told models knows) c.actual_words.ensures);
}
