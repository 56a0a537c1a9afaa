pub mod Numbers
pub mod Texts
pub mod Certificates
pub mod Words
pub mod Parts
pub mod Reading
pub mod Laws
