-- The earliest of words with lines.
use Rattle.std.specs.Prelude.{List, ◌++◌, map, Option, option_map, option_to_list}
use Rattle.netlist_core.specs.declared.model.Port.{Port}
use Rattle.netlist_core.specs.Names.{at_line}
use Rattle.netlist_rules.specs.ModelFaults.{earliest}
use Rattle.model_words.specs.declared.word.Word.{Word}
use Rattle.model_words.specs.declared.earliest.Earliest.{Earliest}

-- words without the place of their bytes in memory
abbrev pub word_port : Word → Port
word_port word = at_line word.line word.name.now

abbrev pub word_ports : List Word → List Port
word_ports words = map word_port words

-- the word that is kept
abbrev pub earliest_word : Earliest → Option Port
earliest_word found = option_map word_port found.word

-- the earliest among a word, if there is one, and the words that follow it
abbrev pub earliest_after : Option Port → List Port → Option Port
earliest_after found words = earliest (option_to_list found ++ words)
