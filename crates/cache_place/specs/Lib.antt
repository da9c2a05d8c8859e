pub mod Times
pub mod TimesLaws
pub mod Said
pub mod SaidLaws
