-- Why words are refused, by clap's error.
use Rattle.clap.specs.Values.{kind_of}
use Rattle.clap.specs.declared.error.Error.{Error}
use Rattle.clap.specs.declared.error.kind.ErrorKind.{ErrorKind}
use Rattle.clap.specs.declared.error.kind.ErrorKind.TheVariants.{OutOfMemory}
use Rattle.command_words.specs.declared.error.WordsError.{WordsError}
use Rattle.command_words.specs.declared.error.WordsError.TheVariants.{Usage, NoMemory}

abbrev pub error_of_kind : ErrorKind → WordsError
error_of_kind OutOfMemory = NoMemory
error_of_kind _ = Usage

abbrev pub error_of : Error → WordsError
error_of e = error_of_kind (kind_of e)
