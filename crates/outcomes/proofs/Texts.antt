-- Decided by the inputs: bytes, lines and numbers in and out, what the programs print, the list line, and WCNF text.
use denote.RattleType.{RattleType}
use denote.Param.Laws.{Laws, IsCopy}
use mir.Syntax.{Dict}
use Rattle.std.specs.declared.clone.Clone.{Ghosts}
use Rattle.outcomes.specs.Decided.{Decided}
use Rattle.outcomes.proofs.Law.{same, decided}
use Rattle.text_out
use Rattle.scan
use Rattle.row_scan
use Rattle.answer_out
use Rattle.refusal_out
use Rattle.row_out
use Rattle.stores
use Rattle.list_entries
use Rattle.list_scan
use Rattle.wcnf
use Rattle.wcnf_header
use Rattle.wcnf_parts
use Rattle.wcnf_text
use Rattle.wcnf_out

-- of entries of any type that is copied
module _ (T : RattleType) (L : Laws T) (C : IsCopy T) (G : Ghosts T.Denot) (d : Dict) where
  pub stores_put_decided : Decided (stores.specs.contracts.put.ended T G d) (stores.proofs.put.Reads.Post T L C G d)
  stores_put_decided = decided λ _ _ _ _ p q. search same

  pub stores_put_all_decided : Decided (stores.specs.contracts.put_all.ended T G d) (stores.proofs.put_all.Reads.Post T L C G d)
  stores_put_all_decided = decided λ _ _ _ _ p q. search same

pub text_out_put_number_decided : Decided text_out.specs.contracts.put_number.ended text_out.proofs.put_number.Reads.Post
text_out_put_number_decided = decided λ _ _ _ _ p q. search same

pub text_out_put_line_decided : Decided text_out.specs.contracts.put_line.ended text_out.proofs.put_line.Reads.Post
text_out_put_line_decided = decided λ _ _ _ _ p q. search same

pub row_out_put_row_decided : Decided row_out.specs.contracts.put_row.ended row_out.proofs.put_row.Reads.Post
row_out_put_row_decided = decided λ _ _ _ _ p q. search same

pub scan_starts_decided : Decided scan.specs.contracts.starts.ended scan.proofs.starts.Reads.Post
scan_starts_decided = decided λ _ _ _ _ p q. search same

pub scan_number_line_decided : Decided scan.specs.contracts.number_line.ended scan.proofs.number_line.Reads.Post
scan_number_line_decided = decided λ _ _ _ _ p q. search same

pub scan_word_line_decided : Decided scan.specs.contracts.word_line.ended scan.proofs.word_line.Reads.Post
scan_word_line_decided = decided λ _ _ _ _ p q. search same

pub row_scan_row_line_decided : Decided row_scan.specs.contracts.row_line.ended row_scan.proofs.row_line.Reads.Post
row_scan_row_line_decided = decided λ _ _ _ _ p q. search same

pub answer_out_put_answer_decided : Decided answer_out.specs.contracts.put_answer.ended answer_out.proofs.put_answer.Reads.Post
answer_out_put_answer_decided = decided λ _ _ _ _ p q. search same

pub refusal_out_put_refused_decided : Decided refusal_out.specs.contracts.put_refused.ended refusal_out.proofs.put_refused.Reads.Post
refusal_out_put_refused_decided = decided λ _ _ _ _ p q. search same

pub list_scan_line_start_decided : Decided list_scan.specs.contracts.line_start.ended list_scan.proofs.line_start.Reads.Post
list_scan_line_start_decided = decided λ _ _ _ _ p q. search same

pub list_scan_list_line_decided : Decided list_scan.specs.contracts.list_line.ended list_scan.proofs.list_line.Reads.Post
list_scan_list_line_decided = decided λ _ _ _ _ p q. search same

pub list_entries_put_list_decided : Decided list_entries.specs.contracts.put_list.ended list_entries.proofs.put_list.Reads.Post
list_entries_put_list_decided = decided λ _ _ _ _ p q. search same

pub wcnf_header_put_header_decided : Decided wcnf_header.specs.contracts.put_header.ended wcnf_header.proofs.put_header.Reads.Post
wcnf_header_put_header_decided = decided λ _ _ _ _ p q. search same

pub wcnf_put_clauses_decided : Decided wcnf.specs.contracts.put_clauses.ended wcnf.proofs.put_clauses.Reads.Post
wcnf_put_clauses_decided = decided λ _ _ _ _ p q. search same

pub wcnf_parts_put_box_decided : Decided wcnf_parts.specs.contracts.put_box.ended wcnf_parts.proofs.put_box.Reads.Post
wcnf_parts_put_box_decided = decided λ _ _ _ _ p q. search same

pub wcnf_parts_put_pair_decided : Decided wcnf_parts.specs.contracts.put_pair.ended wcnf_parts.proofs.put_pair.Reads.Post
wcnf_parts_put_pair_decided = decided λ _ _ _ _ p q. search same

pub wcnf_text_put_text_decided : Decided wcnf_text.specs.contracts.put_text.ended wcnf_text.proofs.put_text.Reads.Post
wcnf_text_put_text_decided = decided λ _ _ _ _ p q. search same

pub wcnf_text_text_length_decided : Decided wcnf_text.specs.contracts.text_length.ended wcnf_text.proofs.text_length.Reads.Post
wcnf_text_text_length_decided = decided λ _ _ _ _ p q. search same

pub wcnf_out_write_wcnf_decided : Decided wcnf_out.specs.contracts.write_wcnf.ended wcnf_out.proofs.write_wcnf.Reads.Post
wcnf_out_write_wcnf_decided = decided λ _ _ _ _ p q. search same
