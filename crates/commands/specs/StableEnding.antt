-- How `stable` ends: the steps in their order, the first that refuses deciding, and the answer.
use Rattle.std.specs.Prelude.{ℕ, ◌≡◌, Bool, true, false, List as Seq, codes, Result, Ok}
use Rattle.net_types.specs.declared.config.SourceFile.{SourceFile}
use Rattle.net_types.specs.NetValue.{NetValue}
use Rattle.net_types.specs.Numbering.{host_of}
use Rattle.net_types.specs.Then.{◌then◌}
use Rattle.outside.specs.Content.{Content}
use Rattle.bundle_reader.specs.Bundle.{bundle_of}
use Rattle.ospf_paths.specs.DistanceList.{distance_list}
use Rattle.concrete_algebra.specs.Problem.{Problem, problem_of}
use Rattle.concrete_algebra.specs.Stability.{BreaksFirst, IsStable}
use Rattle.label_file.specs.declared.contents.Labels.{Labels}
use Rattle.label_file.specs.File.{labels_of}
use Rattle.commands.specs.declared.stable.Proposal.{Proposal}
use Rattle.commands.specs.Folder.{bytes_of, folder_of}
use Rattle.commands.specs.declared.refusals.Bundle.TheVariants.{Only}
use Rattle.commands.specs.declared.refusals.Form.TheVariants as Forms
use Rattle.commands.specs.declared.refusals.Refusal.{Refusal}
use Rattle.commands.specs.declared.refusals.Refusal.TheVariants as Cause
use Rattle.judging.specs.Steps.{and_then, or_refused}

-- the network of the files of a folder
abbrev pub network_of : Seq SourceFile → Result NetValue Refusal
network_of files = or_refused (Cause.Bundle Only files) (bundle_of files)

-- the labels of a label file on a network
unfoldable pub labels_in : NetValue → Seq ℕ → Result Labels Refusal
labels_in net text = or_refused (Cause.Form Forms.Labels) (labels_of net text)

-- the network and its labels, from the files that were read
abbrev pub proposed : Seq SourceFile → Seq ℕ → Result Proposal Refusal
proposed files text =
    and_then (network_of files) (λ net.
    and_then (labels_in net text) (λ labels. Ok (record { net = net; labels = labels })))

-- the inputs of `stable` of a folder and a label file, or the refusal of the first step that refuses: read the folder,
-- unless it has too many files; read the labels; bundle refused; labels refused
unfoldable pub stable_inputs : Content → Seq ℕ → Seq ℕ → Result Proposal Refusal
stable_inputs content bundle labels =
    and_then (folder_of content Only bundle) (λ files.
    and_then (bytes_of content labels) (λ text. proposed files text))

-- the stable routing problem of the labels' prefix, with their links failed, at the distances of OSPF
abbrev pub problem_at : Proposal → Problem
problem_at proposal =
    problem_of proposal.net proposal.labels.prefix proposal.labels.failed
    (distance_list proposal.net proposal.labels.prefix proposal.labels.failed)

-- the lines of the answer
unfoldable pub stable_line : Seq ℕ
stable_line = codes "stable\n"

unfoldable pub broken_line : Seq ℕ → Seq ℕ
broken_line host = codes "not stable at " then host then codes "\n"

-- it breaks first at a router, which is named
pub record IsBroken (proposal : Proposal) (text : Seq ℕ) : Type 0 where
  pub router : ℕ
  pub first : BreaksFirst (problem_at proposal) proposal.labels.labels router
  pub text_is : text ≡ broken_line (host_of proposal.net router)

-- it breaks nowhere
pub record IsHeld (proposal : Proposal) (text : Seq ℕ) : Type 0 where
  pub stable : IsStable (problem_at proposal) proposal.labels.labels
  pub text_is : text ≡ stable_line

-- the answer: good where the labelling is stable
abbrev pub IsStability : Proposal → Seq ℕ → Bool → Type 0
IsStability proposal text true = IsHeld proposal text
IsStability proposal text false = IsBroken proposal text
