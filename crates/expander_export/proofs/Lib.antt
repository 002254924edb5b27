pub mod ExportLaws
