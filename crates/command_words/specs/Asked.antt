-- What the code's commands ask.
use Rattle.command_words.specs.declared.commands.Command.{Command}
use Rattle.command_words.specs.declared.commands.Command.TheVariants as Words
use Rattle.command_words.specs.Commands.{Asked, Check, Stable, Gen}
use Rattle.command_words.specs.declared.serving.ServeWords.{ServeWords}
use Rattle.command_words.specs.Serving.{Serving}

abbrev pub asked : Command → Asked
asked (Words.Check base new properties workers) = Check base.now new.now properties.now workers
asked (Words.Stable bundle labels) = Stable bundle.now labels.now
asked (Words.Gen columns workers) = Gen columns workers

abbrev pub serving : ServeWords → Serving
serving w = record { store = w.store.now; port = w.port; count = w.count; users = w.users.now; workers = w.workers }
