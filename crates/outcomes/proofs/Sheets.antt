-- Decided by the inputs: the house sheet, read and written, and the sheet with its list line.
use Rattle.outcomes.specs.Decided.{Decided}
use Rattle.outcomes.proofs.Law.{same, decided}
use Rattle.sheet
use Rattle.sheet_scan
use Rattle.sheet_parts
use Rattle.sheet_in
use Rattle.sheet_out
use Rattle.list_in
use Rattle.list_store

pub sheet_put_hard_decided : Decided sheet.specs.contracts.put_hard.ended sheet.proofs.put_hard.Reads.Post
sheet_put_hard_decided = decided λ _ _ _ _ p q. search same

pub sheet_put_side_decided : Decided sheet.specs.contracts.put_side.ended sheet.proofs.put_side.Reads.Post
sheet_put_side_decided = decided λ _ _ _ _ p q. search same

pub sheet_put_boxes_decided : Decided sheet.specs.contracts.put_boxes.ended sheet.proofs.put_boxes.Reads.Post
sheet_put_boxes_decided = decided λ _ _ _ _ p q. search same

pub sheet_put_size_decided : Decided sheet.specs.contracts.put_size.ended sheet.proofs.put_size.Reads.Post
sheet_put_size_decided = decided λ _ _ _ _ p q. search same

pub sheet_put_count_decided : Decided sheet.specs.contracts.put_count.ended sheet.proofs.put_count.Reads.Post
sheet_put_count_decided = decided λ _ _ _ _ p q. search same

pub sheet_put_head_decided : Decided sheet.specs.contracts.put_head.ended sheet.proofs.put_head.Reads.Post
sheet_put_head_decided = decided λ _ _ _ _ p q. search same

pub sheet_put_allow_decided : Decided sheet.specs.contracts.put_allow.ended sheet.proofs.put_allow.Reads.Post
sheet_put_allow_decided = decided λ _ _ _ _ p q. search same

pub sheet_scan_hard_line_decided : Decided sheet_scan.specs.contracts.hard_line.ended sheet_scan.proofs.hard_line.Reads.Post
sheet_scan_hard_line_decided = decided λ _ _ _ _ p q. search same

pub sheet_scan_side_line_decided : Decided sheet_scan.specs.contracts.side_line.ended sheet_scan.proofs.side_line.Reads.Post
sheet_scan_side_line_decided = decided λ _ _ _ _ p q. search same

pub sheet_scan_boxes_line_decided : Decided sheet_scan.specs.contracts.boxes_line.ended sheet_scan.proofs.boxes_line.Reads.Post
sheet_scan_boxes_line_decided = decided λ _ _ _ _ p q. search same

pub sheet_scan_values_line_decided : Decided sheet_scan.specs.contracts.values_line.ended sheet_scan.proofs.values_line.Reads.Post
sheet_scan_values_line_decided = decided λ _ _ _ _ p q. search same

pub sheet_scan_pairs_line_decided : Decided sheet_scan.specs.contracts.pairs_line.ended sheet_scan.proofs.pairs_line.Reads.Post
sheet_scan_pairs_line_decided = decided λ _ _ _ _ p q. search same

pub sheet_scan_first_line_decided : Decided sheet_scan.specs.contracts.first_line.ended sheet_scan.proofs.first_line.Reads.Post
sheet_scan_first_line_decided = decided λ _ _ _ _ p q. search same

pub sheet_scan_second_line_decided : Decided sheet_scan.specs.contracts.second_line.ended sheet_scan.proofs.second_line.Reads.Post
sheet_scan_second_line_decided = decided λ _ _ _ _ p q. search same

pub sheet_scan_weight_line_decided : Decided sheet_scan.specs.contracts.weight_line.ended sheet_scan.proofs.weight_line.Reads.Post
sheet_scan_weight_line_decided = decided λ _ _ _ _ p q. search same

pub sheet_scan_allow_line_decided : Decided sheet_scan.specs.contracts.allow_line.ended sheet_scan.proofs.allow_line.Reads.Post
sheet_scan_allow_line_decided = decided λ _ _ _ _ p q. search same

pub sheet_parts_read_values_decided : Decided sheet_parts.specs.contracts.read_values.ended sheet_parts.proofs.read_values.Reads.Post
sheet_parts_read_values_decided = decided λ _ _ _ _ p q. search same

pub sheet_parts_read_pairs_decided : Decided sheet_parts.specs.contracts.read_pairs.ended sheet_parts.proofs.read_pairs.Reads.Post
sheet_parts_read_pairs_decided = decided λ _ _ _ _ p q. search same

pub sheet_parts_fill_decided : Decided sheet_parts.specs.contracts.fill.ended sheet_parts.proofs.fill.Reads.Post
sheet_parts_fill_decided = decided λ _ _ _ _ p q. search same

pub sheet_in_read_sheet_decided : Decided sheet_in.specs.contracts.read_sheet.ended sheet_in.proofs.read_sheet.Reads.Post
sheet_in_read_sheet_decided = decided λ _ _ _ _ p q. search same

pub sheet_out_write_sheet_decided : Decided sheet_out.specs.contracts.write_sheet.ended sheet_out.proofs.write_sheet.Reads.Post
sheet_out_write_sheet_decided = decided λ _ _ _ _ p q. search same

pub list_store_store_decided : Decided list_store.specs.contracts.store.ended list_store.proofs.store.Reads.Post
list_store_store_decided = decided λ _ _ _ _ p q. search same

pub list_in_read_list_decided : Decided list_in.specs.contracts.read_list.ended list_in.proofs.read_list.Reads.Post
list_in_read_list_decided = decided λ _ _ _ _ p q. search same
